-- Of two blocks, the one with the smaller stamp stands further behind.
use Rattle.std.proofs.Common.{◌≡◌, ◌≢◌, ℕ, suc, ◌≤◌, true, cond, eqb, List, [], ◌∷◌, length}
use Rattle.std.proofs.Common.{Some, sym, ap, subst, ◌∙◌, arith}
use Rattle.std.proofs.lemmas.Bool.{eqb-true}
use Rattle.std.proofs.lemmas.Option.{same_Some}
use Rattle.cache_core.proofs.Cases.{by_cases}
use Rattle.cache_core.proofs.Reuse.{has}
use Rattle.marked_list.specs.Recency.{index_in}
use Rattle.marked_list.specs.Uses.{AreStamps, dead, last_in, living, stamp_at, stamped_place}
use Rattle.marked_list.proofs.LastUse.{has-last, last-other, last-same, last-there}
use Rattle.marked_list.proofs.Living.{has-living, living-first}
use Rattle.marked_list.proofs.Stamps.{living-low, place-below, place-some}

-- a block in front has index 0
first-index : (b : ℕ) (m : ℕ) (ys : List ℕ) → eqb m b ≡ true → index_in b (m ∷ ys) ≡ 0
first-index b m ys e = ap (λ t. cond t 0 (suc (index_in b ys))) e

-- of two blocks with a last use, the one whose last use is earlier stands further behind
module _ (b c p q : ℕ) (low-c : c ≢ dead) (le : p ≤ q) where
  pub earlier-behind : (ms : List ℕ) → last_in ms b ≡ Some p → last_in ms c ≡ Some q
      → index_in c (living ms) ≤ index_in b (living ms)
  earlier-behind [] at-b at-c = cc
  earlier-behind (m ∷ ms) at-b at-c = by_cases (eqb m c)
      (λ e. let low : m ≢ dead = subst (λ z. z ≢ dead) (sym (eqb-true m c e)) low-c in
      let none : index_in c (living (m ∷ ms)) ≡ 0 = ap (index_in c) (living-first m ms low)
      ∙ first-index c m (living ms) e in
      omega (arith, none))
      (λ e. let at-c' = sym (last-other m c ms e) ∙ at-c in
      by_cases (eqb m b)
      (λ f. let here : length ms ≡ p = same_Some (length ms) p (sym (last-same m b ms f) ∙ at-b) in
      absurd (omega (arith, here, (last-there ms c q at-c').0)))
      (λ f. let rest = earlier-behind ms (sym (last-other m b ms f) ∙ at-b) at-c' in
      by_cases (eqb m dead)
      (λ d. rw d rest)
      (λ d. rw (d, e, f) (omega (arith, rest)))))

module _ (ms stamps : List ℕ) (st : AreStamps ms stamps) where
  -- the stamp of a block in the list is the place of its last use
  stamp-last : (b : ℕ) → has (living ms) b ≡ true → last_in ms b ≡ Some (stamp_at stamps b)
  stamp-last b h =
      let low = living-low ms b h in
      let u = has-last ms b (sym (has-living ms b low) ∙ h) in
      let is : stamped_place (stamp_at stamps b) ≡ last_in ms b = st b low in
      sym is ∙ place-some (stamp_at stamps b) (place-below (stamp_at stamps b) u.0 (is ∙ u.1))

  -- of two blocks in the list, the one with the smaller stamp stands further behind
  pub smaller-behind : (b c : ℕ) → has (living ms) b ≡ true → has (living ms) c ≡ true
      → stamp_at stamps b ≤ stamp_at stamps c
      → index_in c (living ms) ≤ index_in b (living ms)
  smaller-behind b c has-b has-c le =
      earlier-behind b c (stamp_at stamps b) (stamp_at stamps c) (living-low ms c has-c) le ms
      (stamp-last b has-b) (stamp-last c has-c)
