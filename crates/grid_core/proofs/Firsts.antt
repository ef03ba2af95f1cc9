-- A block that is the first of its set is so among more sets too.
use Rattle.std.proofs.Common.{◌≡◌, ℕ, suc, ◌+◌, ◌-◌, ◌*◌, ◌/◌, ◌%◌, ◌^◌, ◌<◌, ◌≤◌, Bool, true}
use Rattle.std.proofs.Common.{false, cond, eqb, ltb, List, [], ◌∷◌, length, take, refl, sym, ap}
use Rattle.std.proofs.Common.{subst, ◌∙◌, inl, inr, arith}
use Rattle.std.proofs.Math.Pow.{pow-add, pow-lt}
use Rattle.std.proofs.lemmas.Bool.{cases_lt, eqb-true, eq-eqb, false≢true, ltb-true, ltb-false}
use Rattle.std.specs.Int.{◌∣◌}
use native.Mathlib.Nat.{mod-mod_of_dvd, dvd-mul_right}
use Rattle.cache_core.specs.declared.access.Access.{Access}
use Rattle.cache_core.specs.declared.geometry.Geometry.{Geometry}
use Rattle.cache_core.specs.Geometry.{size_of, bsize_of, assoc_of, sets_of}
use Rattle.cache_core.specs.History.{History, Rules, access, flush, block_of, is_write}
use Rattle.cache_core.specs.Order.{ranked}
use Rattle.cache_core.specs.Residents.{before, is_resident, renewals}
use Rattle.cache_core.proofs.Cases.{by_cases}
use Rattle.cache_core.proofs.Masks.{zeros, sets_is}
use Rattle.cache_core.proofs.Reuse.{has}
use Rattle.cache_core.proofs.Shift.{without}
use Rattle.cache_core.proofs.Turns.{ranked-lru, ranked-other, renewals-yes}
use Rattle.grid_core.specs.declared.stack.Stack.{Stack}
use Rattle.grid_core.specs.Levels.{dirty_level}
use Rattle.grid_core.specs.Recent.{used_last}
use Rattle.grid_core.specs.Slots.{level_after}
use Rattle.grid_core.specs.Standing.{StaysFirst, rules_of_rows}
use Rattle.grid_core.specs.Ways.{IsStacked, stack_distance}
use Rattle.grid_core.proofs.Distances.{distance-place, place_in, renews-all}
use Rattle.grid_core.proofs.Fronts.{low-level}
use Rattle.grid_core.proofs.Levels.{level-other, level-step}
use Rattle.grid_core.proofs.Repeats.{distance-last}
use Rattle.grid_core.proofs.StackRules.{some-ways, stacked}

-- the larger of two numbers of sets is a multiple of the other
pub sets-divide : (g j : Geometry) → sets_of g ≤ sets_of j
    → (k : ℕ) × (sets_of j ≡ sets_of g * k)
unfolding size_of bsize_of assoc_of
sets-divide g j le =
    let m = zeros g.size - (zeros g.bsize + zeros g.assoc) in
    let n = zeros j.size - (zeros j.bsize + zeros j.assoc) in
    let fewer : sets_of g ≡ 2 ^ m = sets_is g.size g.bsize g.assoc g.lawful in
    let more : sets_of j ≡ 2 ^ n = sets_is j.size j.bsize j.assoc j.lawful in
    let up : m ≤ n = elim (cases_lt n m) [
      | inr le ↦ le
      | inl lt ↦ let over : 2 ^ n < 2 ^ m = pow-lt lt in absurd (omega arith)
    ] in
    let sum : n ≡ m + (n - m) = omega arith in (
      2 ^ (n - m),
      more ∙ ap (λ e. 2 ^ e) sum ∙ pow-add 2 m (n - m)
          ∙ ap (λ e. e * 2 ^ (n - m)) (sym fewer),
    )

-- behind another block nothing is first
behind-first : (most c : ℕ) (ms : List ℕ) (b : ℕ) → 0 < most → eqb c b ≡ false
    → place_in most (c ∷ ms) b ≡ 0 → ⊥
behind-first most c ms b some apart zero =
    (elim (has (take most (c ∷ ms)) b) as (λ t. cond t (suc (length (before b ms))) most ≡ 0 → ⊥) [
      | true ↦ λ e. omega arith
      | false ↦ λ e. omega arith
    ]) (ap (λ t. cond (has (take most (c ∷ ms)) b) (length (cond t [] (c ∷ before b ms))) most)
    (sym apart) ∙ zero)

-- how an access changes the stack distance of a block
module _ (r : Rules) (st : IsStacked r) (some : 0 < r.assoc) (h : History) (x : Access) (b : ℕ)
  where
    abbrev c : ℕ
    c = block_of r x

    place-next : stack_distance r (access x ∷ h) b
        ≡ place_in r.assoc (ranked r (b % r.sets) (c ∷ renewals r h)) b
    place-next = distance-place r st (access x ∷ h) b
        ∙ ap (λ ms. place_in r.assoc (ranked r (b % r.sets) ms) b)
        (renewals-yes r h x (renews-all r st (renewals r h) x))

    distance-here : eqb c b ≡ true → stack_distance r (access x ∷ h) b ≡ 0
    unfolding used_last
    distance-here e = distance-last r st b some (access x ∷ h) e

    distance-other : eqb (c % r.sets) (b % r.sets) ≡ false
        → stack_distance r (access x ∷ h) b ≡ stack_distance r h b
    distance-other e = place-next
        ∙ ap (λ l. place_in r.assoc l b) (ranked-other r (b % r.sets) c (renewals r h) e)
        ∙ sym (distance-place r st h b)

    distance-behind : eqb (c % r.sets) (b % r.sets) ≡ true → eqb c b ≡ false
        → stack_distance r (access x ∷ h) b ≡ 0 → ⊥
    distance-behind e apart zero =
        let rest = without c (ranked r (c % r.sets) (renewals r h)) in
        let is : stack_distance r (access x ∷ h) b ≡ place_in r.assoc (c ∷ rest) b =
        place-next
        ∙ ap (λ s. place_in r.assoc (ranked r s (c ∷ renewals r h)) b)
        (sym (eqb-true (c % r.sets) (b % r.sets) e))
        ∙ ap (λ l. place_in r.assoc l b) (ranked-lru r c (renewals r h) st.lru) in
        behind-first r.assoc c rest b some apart (sym is ∙ zero)

-- a read that leaves a level of 0 found it so, and its block first
both-zero : (l d : ℕ) → level_after false l d ≡ 0 → (l ≡ 0) × (d ≡ 0)
both-zero l d e = (elim (ltb l d) as (λ t. ltb l d ≡ t → cond t d l ≡ 0 → (l ≡ 0) × (d ≡ 0)) [
  | true ↦ λ t e. let lt = ltb-true l d t in absurd (omega arith)
  | false ↦ λ t e. let ge = ltb-false l d t in (e, omega arith)
]) refl e

module _ (r q : Rules) (st : IsStacked r) (wide : IsStacked q) (some : 0 < r.assoc)
    (others : 0 < q.assoc) (same : q.bsize ≡ r.bsize) (k : ℕ) (more : q.sets ≡ r.sets * k)
    (b : ℕ) where
  block-same : (x : Access) → block_of q x ≡ block_of r x
  block-same x = ap (λ n. x.addr / n) same

  -- what is in one set among more sets is so among fewer
  finer : (c : ℕ) → eqb (c % q.sets) (b % q.sets) ≡ true → eqb (c % r.sets) (b % r.sets) ≡ true
  finer c e =
      let part : r.sets ∣ q.sets = subst (λ n. r.sets ∣ n) (sym more) (dvd-mul_right r.sets k) in
      eq-eqb (c % r.sets) (b % r.sets) (sym (mod-mod_of_dvd r.sets c part)
      ∙ ap (λ z. z % r.sets) (eqb-true (c % q.sets) (b % q.sets) e)
      ∙ mod-mod_of_dvd r.sets b part)

  apart : (x : Access) → eqb (block_of r x % r.sets) (b % r.sets) ≡ false
      → eqb (block_of q x % q.sets) (b % q.sets) ≡ false
  apart x e = by_cases (eqb (block_of q x % q.sets) (b % q.sets))
      (λ t. absurd (false≢true (sym e ∙ ap (λ c. eqb (c % r.sets) (b % r.sets))
      (sym (block-same x)) ∙ finer (block_of q x) t)))
      (λ t. t)

  -- a block that is first is first among more sets
  first-more : (h : History) → stack_distance r h b ≡ 0 → stack_distance q h b ≡ 0
  unfolding stack_distance is_resident renewals
  first-more [] zero = absurd (omega arith)
  first-more (flush ∷ h) zero = absurd (omega arith)
  first-more (access x ∷ h) zero = by_cases (eqb (block_of r x) b)
      (λ e. distance-here q wide others h x b (ap (λ c. eqb c b) (block-same x) ∙ e))
      (λ e. by_cases (eqb (block_of r x % r.sets) (b % r.sets))
      (λ f. absurd (distance-behind r st some h x b f e zero))
      (λ f. distance-other q wide others h x b (apart x f)
      ∙ first-more h (sym (distance-other r st some h x b f) ∙ zero)))

  level-used : (w : Bool) (h : History)
      → (stack_distance r h b ≡ 0 → dirty_level r h b ≡ 0 → dirty_level q h b ≡ 0)
      → level_after w (dirty_level r h b) (stack_distance r h b) ≡ 0
      → level_after w (dirty_level q h b) (stack_distance q h b) ≡ 0
  level-used true h before e = refl
  level-used false h before e =
      let each = both-zero (dirty_level r h b) (stack_distance r h b) e in
      ap (λ l. level_after false l (stack_distance q h b)) (before each.1 each.0)
      ∙ ap (level_after false 0) (first-more h each.1) ∙ low-level 0

  -- and if it is dirty in all numbers of ways, so it is there
  level-more : (h : History) → stack_distance r h b ≡ 0 → dirty_level r h b ≡ 0
      → dirty_level q h b ≡ 0
  unfolding dirty_level
  level-more [] zero low = absurd (omega arith)
  level-more (flush ∷ h) zero low = absurd (omega arith)
  level-more (access x ∷ h) zero low = by_cases (eqb (block_of r x) b)
      (λ e. level-step q wide h x b (ap (λ c. eqb c b) (block-same x) ∙ e)
      ∙ level-used (is_write x) h (level-more h) (sym (level-step r st h x b e) ∙ low))
      (λ e. by_cases (eqb (block_of r x % r.sets) (b % r.sets))
      (λ f. absurd (distance-behind r st some h x b f e zero))
      (λ f. level-other q wide h x b (ap (λ c. eqb c b) (block-same x) ∙ e)
      ∙ level-more h (sym (distance-other r st some h x b f) ∙ zero)
      (sym (level-other r st h x b e) ∙ low)))

-- a block that stays first in its row stays so in rows of more sets
pub stays-more : (s t : Stack) (h : History) (x : Access)
    → (rules_of_rows t).bsize ≡ (rules_of_rows s).bsize
    → (rules_of_rows s).sets ≤ (rules_of_rows t).sets
    → StaysFirst (rules_of_rows s) h x → StaysFirst (rules_of_rows t) h x
unfolding rules_of_rows
stays-more s t h x same le first =
    let r = rules_of_rows s in
    let q = rules_of_rows t in
    let b = block_of r x in
    let part = sets-divide s.geometry t.geometry le in
    let block : b ≡ block_of q x = ap (λ n. x.addr / n) (sym same) in
    record {
      first = subst (λ c. stack_distance q h c ≡ 0) block (first-more r q (stacked s) (stacked t)
          (some-ways s) (some-ways t) same part.0 part.1 b h first.first);
      dirty = λ w. subst (λ c. dirty_level q h c ≡ 0) block (level-more r q (stacked s)
          (stacked t) (some-ways s) (some-ways t) same part.0 part.1 b h first.first
          (first.dirty w));
    }
