-- The ways of a cache hold the residents of its history.
use Rattle.std.proofs.Common.{◌≡◌, ℕ, zero, suc, ◌*◌, List, [], ◌∷◌, ◌++◌, take, map, filter}
use Rattle.std.proofs.Common.{replicate, refl, ap, ◌∙◌}
use Rattle.cache_core.specs.declared.cache.Cache.{Cache}
use Rattle.cache_core.specs.History.{Rules, History}
use Rattle.cache_core.specs.Residents.{renewals}
use Rattle.cache_core.specs.Order.{ranked}
use Rattle.cache_core.specs.Row.{row_of, way_at, empty_way, is_valid, block_addr_of}
use Rattle.cache_core.specs.Standing.{StandsFor, HoldsResidents, rules_of, held_in}
use Rattle.cache_core.proofs.Reuse.{has-ways_of}

module _ (r : Rules) (h : History) where
  empty-held : (n k : ℕ) → filter is_valid (take n (replicate k empty_way)) ≡ []
  empty-held zero k = refl
  empty-held (suc n) zero = refl
  empty-held (suc n) (suc k) = empty-held n k

  held-shown : (n k : ℕ) (ms : List ℕ)
      → map block_addr_of (filter is_valid (take n (map (way_at r h) ms ++ replicate k empty_way)))
      ≡ map (λ b. b * r.bsize) (take n ms)
  held-shown zero k ms = refl
  held-shown (suc n) k [] = ap (map block_addr_of) (empty-held (suc n) k)
  held-shown (suc n) k (m ∷ ms) = ap (λ l. m * r.bsize ∷ l) (held-shown n k ms)

  held-row_of : (s : ℕ) → map block_addr_of (filter is_valid (row_of r h s))
      ≡ map (λ b. b * r.bsize) (take r.assoc (ranked r s (renewals r h)))
  unfolding row_of
  held-row_of s = held-shown r.assoc r.assoc (ranked r s (renewals r h))

-- a cache that stands for a history holds the residents of each set, in order
pub holds-residents : (c : Cache) (h : History) → StandsFor c h → HoldsResidents c h
unfolding held_in rules_of
holds-residents c h st = record {
  in_order = λ s below. ap (λ l. map block_addr_of (filter is_valid l)) (st.holds.rows s below)
      ∙ held-row_of (rules_of c) h s;
  residents = λ b. has-ways_of (rules_of c) (renewals (rules_of c) h) b;
}
