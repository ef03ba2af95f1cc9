-- Among fewer sets a block is not nearer: what stands before it among more sets stands before it
-- there too (Hill and Smith, 1989).
use Rattle.std.proofs.Common.{◌≡◌, ℕ, ◌+◌, ◌*◌, ◌%◌, ◌/◌, ◌≤◌, Bool, true, false, ◌&&◌, min, eqb}
use Rattle.std.proofs.Common.{ltb, List, length, take, filter, if◌then◌else◌, refl, sym, ap, subst}
use Rattle.std.proofs.Common.{◌∙◌, arith}
use Rattle.std.proofs.lemmas.Bool.{eq-eqb, cond-false, and_parts, ltb-false}
use Rattle.cache_core.specs.declared.access.Access.{Access}
use Rattle.cache_core.specs.History.{Rules, History, block_of}
use Rattle.cache_core.specs.Order.{ranked}
use Rattle.cache_core.specs.Residents.{before, distinct, in_set, renewals}
use Rattle.cache_core.proofs.Cases.{by_cases}
use Rattle.cache_core.proofs.Members.{length-filter_le}
use Rattle.cache_core.proofs.Reuse.{has, has-filter, before-filter, has-take}
use Rattle.grid_core.specs.declared.stack.Stack.{Stack}
use Rattle.grid_core.specs.declared.stacks.Behind.{Behind}
use Rattle.grid_core.specs.Standing.{IsBehind, rules_of_rows}
use Rattle.grid_core.specs.Ways.{IsStacked, stack_distance}
use Rattle.grid_core.proofs.Distances.{renewals-size}
use Rattle.grid_core.proofs.Distances.{distance-place, place_in}
use Rattle.grid_core.proofs.Firsts.{sets-divide}
use Rattle.grid_core.proofs.MoreSets.{order-part}
use Rattle.grid_core.proofs.StackRules.{stacked}

-- a part of a list that has b has it at no later place
part-before : (p : ℕ → Bool) (b : ℕ) → p b ≡ true → (most m : ℕ) (ms : List ℕ)
    → min (place_in m (filter p ms) b) most ≤ place_in most ms b
part-before p b passes most m ms = by_cases (has (take most ms) b)
    (λ e.
    let near = and_parts (has ms b) (ltb (length (before b ms)) most) (sym (has-take most ms b) ∙ e)
    in
    let less : length (before b (filter p ms)) ≤ length (before b ms) =
    subst (λ l. length l ≤ length (before b ms)) (sym (before-filter p b passes ms))
    (length-filter_le p (before b ms)) in
    by_cases (has (take m (filter p ms)) b)
    (λ f. rw (e, f) (omega arith))
    (λ f.
    let far = ltb-false (length (before b (filter p ms))) m
    (ap (λ t. t && ltb (length (before b (filter p ms))) m)
    (sym (has-filter p b passes ms ∙ near.0)) ∙ sym (has-take m (filter p ms) b) ∙ f) in
    rw (e, f) (omega arith)))
    (λ e. rw e (omega arith))

-- so a block stands no nearer among fewer sets
module _ (r q : Rules) (st : IsStacked r) (wide : IsStacked q) (same : q.bsize ≡ r.bsize) (k : ℕ)
    (more : q.sets ≡ r.sets * k) (h : History) (b : ℕ) where
  abbrev ms : List ℕ
  ms = renewals r h

  abbrev in_finer : ℕ → Bool
  in_finer m = eqb (m % (r.sets * k)) (b % (r.sets * k))

  order-finer : ranked q (b % q.sets) (renewals q h) ≡ filter in_finer (ranked r (b % r.sets) ms)
  order-finer =
      ap (ranked q (b % q.sets)) (renewals-size q r wide st same h)
      ∙ cond-false q.fifo (in_set q (b % q.sets) ms) (distinct (in_set q (b % q.sets) ms)) wide.lru
      ∙ ap (λ n. distinct (filter (λ m. eqb (m % n) (b % n)) ms)) more
      ∙ order-part r st k h b

  pub not-nearer : min (stack_distance q h b) r.assoc ≤ stack_distance r h b
  not-nearer =
      let passes : in_finer b ≡ true = eq-eqb (b % (r.sets * k)) (b % (r.sets * k)) refl in
      let le = part-before in_finer b passes r.assoc q.assoc (ranked r (b % r.sets) ms) in
      let near = distance-place q wide h b ∙ ap (λ l. place_in q.assoc l b) order-finer in
      let far = distance-place r st h b in
      rw (near, far) le

-- in rows of no more sets the block of an access is not among as many
pub behind-fewer : (s t : Stack) (h : History) (x : Access)
    → (rules_of_rows t).bsize ≡ (rules_of_rows s).bsize
    → (rules_of_rows t).sets ≤ (rules_of_rows s).sets
    → IsBehind (stack_distance (rules_of_rows s) h (block_of (rules_of_rows s) x)) h x
    (rules_of_rows t)
unfolding rules_of_rows
behind-fewer s t h x same le =
    let r = rules_of_rows t in
    let q = rules_of_rows s in
    let part = sets-divide t.geometry s.geometry le in
    let block : block_of q x ≡ block_of r x = ap (λ n. x.addr / n) (sym same) in
    subst (λ c. min (stack_distance q h c) r.assoc ≤ stack_distance r h (block_of r x)) (sym block)
    (not-nearer r q (stacked t) (stacked s) (sym same) part.0 part.1 h (block_of r x))

-- so it is not among those that a search leaves out
pub behind-searched : (v : Behind) (s : Stack) (h : History) (x : Access) (last : ℕ)
    → last + 1 ≡ (rules_of_rows s).sets
    → ((rules_of_rows s).sets ≤ v.last_set + 1 → IsBehind v.places h x (rules_of_rows s))
    → IsBehind (if ltb v.last_set last then 0 else v.places) h x (rules_of_rows s)
behind-searched v s h x last is before = (elim (ltb v.last_set last) as (λ t.
    ltb v.last_set last ≡ t → IsBehind (if t then 0 else v.places) h x (rules_of_rows s)) [
      | true ↦ λ e. omega arith
      | false ↦ λ e. let ge = ltb-false v.last_set last e in before (omega arith)
    ]) refl
