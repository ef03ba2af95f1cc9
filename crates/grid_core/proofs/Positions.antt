-- Where a block stands in a row of slots.
use Rattle.std.proofs.Common.{◌≡◌, ℕ, zero, suc, ◌+◌, ◌≤◌, Bool, true, false, cond, eqb, List, []}
use Rattle.std.proofs.Common.{◌∷◌, length, take, drop, replicate, Some, refl, ap, ◌∙◌, arith}
use Rattle.std.specs.List.{find}
use Rattle.cache_core.specs.Residents.{before}
use Rattle.cache_core.proofs.Reuse.{has}
use Rattle.cache_core.proofs.Shift.{padded}
use Rattle.cache_core.proofs.Cases.{by_cases}
use Rattle.marked_list.specs.Recency.{index_of}

module _ {X : Type 0} (f : ℕ → X) (empty : X) (k : ℕ) (p : X → Bool) (b : ℕ)
    (at : (y : ℕ) → p (f y) ≡ eqb y b) (none : p empty ≡ false) where
  index-replicate : (n j : ℕ) → n ≤ j → index_of p (take n (replicate j empty)) ≡ n
  index-replicate zero j le = refl
  index-replicate (suc n) zero le = absurd (omega arith)
  index-replicate (suc n) (suc j) le = rw none (ap suc (index-replicate n j (omega arith)))

  one-on : (t : Bool) (d n : ℕ) → suc (cond t d n) ≡ cond t (suc d) (suc n)
  one-on true d n = refl
  one-on false d n = refl

  -- in a row of n, b stands at its place in the order, or there is no b and the answer is n
  pub index-padded : (n : ℕ) (ms : List ℕ) → n ≤ k
      → index_of p (take n (padded f empty k ms))
      ≡ cond (has (take n ms) b) (length (before b ms)) n
  index-padded zero ms le = refl
  index-padded (suc n) [] le = index-replicate (suc n) k le
  index-padded (suc n) (m ∷ ms) le = by_cases (eqb m b)
      (λ e. rw (at m, e) refl)
      (λ e. rw (at m, e) (ap suc (index-padded n ms (omega arith))
      ∙ one-on (has (take n ms) b) (length (before b ms)) n))

-- what is left of a list has its first that passes where the whole list has it, if none that passes
-- was left out
pub index-behind : {X : Type 0} (p : X → Bool) (n : ℕ) (xs : List X) → n ≤ index_of p xs
    → n + index_of p (drop n xs) ≡ index_of p xs
index-behind p zero xs le = omega arith
index-behind p (suc n) [] le = absurd (omega arith)
index-behind p (suc n) (x ∷ xs) le = (elim (p x) as (λ t. suc n ≤ cond t 0 (suc (index_of p xs))
    → suc n + index_of p (drop n xs) ≡ cond t 0 (suc (index_of p xs))) [
      | true ↦ λ above. absurd (omega arith)
      | false ↦ λ above. let same = index-behind p n xs (omega arith) in omega arith
    ]) le

pub find-behind : {X : Type 0} (p : X → Bool) (n : ℕ) (xs : List X) → n ≤ index_of p xs
    → find p (drop n xs) ≡ find p xs
find-behind p zero xs le = refl
find-behind p (suc n) [] le = absurd (omega arith)
find-behind p (suc n) (x ∷ xs) le = (elim (p x) as (λ t. suc n ≤ cond t 0 (suc (index_of p xs))
    → find p (drop n xs) ≡ cond t (Some x) (find p xs)) [
      | true ↦ λ above. absurd (omega arith)
      | false ↦ λ above. find-behind p n xs (omega arith)
    ]) le
