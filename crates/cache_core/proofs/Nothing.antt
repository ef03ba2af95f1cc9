-- An empty cache stands for the empty history.
use Rattle.std.proofs.Common.{◌≡◌, ℕ, zero, suc, ◌+◌, ◌-◌, ◌*◌, ◌<◌, ◌≤◌, true, false, cond, List}
use Rattle.std.proofs.Common.{[], ◌∷◌, ◌++◌, take, map, replicate, refl, sym, ap, ◌∙◌, arith}
use Rattle.std.proofs.Math.Nat.{mul-le-mul_right}
use Rattle.std.proofs.lemmas.List.{take-replicate, drop-replicate}
use Rattle.cache_core.specs.History.{Rules, History, flush}
use Rattle.cache_core.specs.Residents.{renewals}
use Rattle.cache_core.specs.Order.{ranked, ways_of}
use Rattle.cache_core.specs.Row.{empty_way, row, way_at, row_of}

-- of nothing, nothing is first
pub take_none : {X : Type 0} (n : ℕ) → take {A = X} n [] ≡ []
take_none zero = refl
take_none (suc n) = refl

ranked-none : (r : Rules) (s : ℕ) → ranked r s [] ≡ []
ranked-none r s = (elim r.fifo as (λ t. cond {A = List ℕ} t [] [] ≡ [])
    [ true ↦ refl | false ↦ refl ])

-- where nothing was renewed, a set has no residents
pub ways_of-none : (r : Rules) (s : ℕ) → ways_of r s [] ≡ []
ways_of-none r s = ap (take r.assoc) (ranked-none r s) ∙ take_none r.assoc

module _ (r : Rules) (h : History) (none : renewals r h ≡ []) where
  row_of-none : (s : ℕ) → row_of r h s ≡ replicate r.assoc empty_way
  unfolding row_of
  row_of-none s = ap (λ l. take r.assoc
      (map (way_at r h) (ranked r s l) ++ replicate r.assoc empty_way)) none
      ∙ ap (λ l. take r.assoc (map (way_at r h) l ++ replicate r.assoc empty_way)) (ranked-none r s)
      ∙ take-replicate r.assoc r.assoc empty_way (omega arith)

  -- and its row is empty
  pub rows-none : (t : ℕ) → t < r.sets
      → row r.assoc t (replicate (r.sets * r.assoc) empty_way) ≡ row_of r h t
  rows-none t below =
      let fits : (t + 1) * r.assoc ≤ r.sets * r.assoc = mul-le-mul_right r.assoc (omega arith) in
      ap (take r.assoc) (drop-replicate (t * r.assoc) (r.sets * r.assoc) empty_way)
      ∙ take-replicate r.assoc (r.sets * r.assoc - t * r.assoc) empty_way (omega arith)
      ∙ sym (row_of-none t)

-- nothing was renewed at the start
pub renewals-start : (r : Rules) → renewals r [] ≡ []
unfolding renewals
renewals-start r = refl

-- nor since a flush
pub renewals-flush : (r : Rules) (h : History) → renewals r (flush ∷ h) ≡ []
unfolding renewals
renewals-flush r h = refl
