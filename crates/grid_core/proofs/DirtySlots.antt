-- As many slots of the rows are dirty as blocks.
use Rattle.std.proofs.Common.{◌≡◌, ℕ, zero, suc, ◌%◌, ◌<◌, ◌≤◌, Bool, true, false, cond}
use Rattle.std.proofs.Common.{◌&&◌, eqb, ltb, List, [], ◌∷◌, ◌++◌, length, take, map}
use Rattle.std.proofs.Common.{filter, replicate, refl, sym, ap, subst, ◌∙◌, inl, inr, arith}
use Rattle.std.proofs.Math.Nat.{mod-lt}
use Rattle.std.proofs.lemmas.Bool.{eqb-true, eq-eqb, false≢true, or_left, or_right, or_cases}
use Rattle.std.proofs.lemmas.Bool.{and_parts, and_from, or_from, cases_lt, false_from_ne_true}
use Rattle.std.proofs.lemmas.Bool.{true_from_ne_false}
use Rattle.std.proofs.lemmas.List.{length-append, take-take}
use Rattle.cache_core.specs.History.{Rules, History}
use Rattle.cache_core.specs.Residents.{renewals, is_resident}
use Rattle.cache_core.specs.Dirty.{is_written, is_dirty, dirty_blocks}
use Rattle.cache_core.specs.Order.{ranked}
use Rattle.cache_core.proofs.Reuse.{has, has-take}
use Rattle.cache_core.proofs.Shift.{IsOnce, IsOnce-filter, IsOnce-take}
use Rattle.cache_core.proofs.Turns.{absent, IsOnce-ranked}
use Rattle.cache_core.proofs.Members.{has-append}
use Rattle.cache_core.proofs.Flushed.{has-filter_both, filter-has}
use Rattle.cache_core.proofs.Owed.{dirty-has, dirty-once, has-dirty}
use Rattle.grid_core.specs.Slot.{Slot, no_slot}
use Rattle.grid_core.specs.declared.stack.Stack.{Stack}
use Rattle.grid_core.specs.Ways.{with_ways, IsStacked}
use Rattle.grid_core.specs.Levels.{dirty_level}
use Rattle.grid_core.specs.Pushed.{is_dirty_slot}
use Rattle.grid_core.specs.Slots.{dirty_slot_count, dirty_slot_count_in_rows}
use Rattle.grid_core.specs.Standing.{StackStandsFor, row_slots, rules_of_rows, slot_at, slots_of}
use Rattle.grid_core.proofs.Distances.{resident-take}
use Rattle.grid_core.proofs.Levels.{written-level}
use Rattle.grid_core.proofs.Onces.{once-length}
use Rattle.grid_core.proofs.StackRules.{stacked, some-sets}

-- two lists without repetitions, one after the other, that share no number
once-append : (xs ys : List ℕ) → IsOnce xs → IsOnce ys
    → ((z : ℕ) → has xs z ≡ true → has ys z ≡ true → ⊥) → IsOnce (xs ++ ys)
once-append [] ys once-x once-y apart = once-y
once-append (x ∷ xs) ys once-x once-y apart = (
  has-append xs ys x ∙ or_from (has xs x) (has ys x) once-x.0
      (false_from_ne_true (has ys x)
      (λ g. apart x (or_left (eqb x x) (has xs x) (eq-eqb x x refl)) g)),
  once-append xs ys once-x.1 once-y
      (λ z g k. apart z (or_right (eqb x z) (has xs z) g) k),
)

module _ (r : Rules) (st : IsStacked r) (n : ℕ) (pos : 0 < n) (le : n ≤ r.assoc) (h : History) where
  abbrev q : Rules
  q = with_ways n r

  abbrev ms : List ℕ
  ms = renewals r h

  -- a block is dirty if it is among the first n of its set
  abbrev marked : ℕ → Bool
  marked b = r.wback && ltb (dirty_level r h b) n

  -- the dirty blocks of a set, and of the first sets
  abbrev dirty_of : ℕ → List ℕ
  dirty_of t = filter marked (take n (ranked r t ms))

  abbrev dirty_to : ℕ → List ℕ
  dirty_to zero = []
  dirty_to (suc k) = dirty_to k ++ dirty_of k

  of-set : (t b : ℕ) → has (dirty_of t) b ≡ true → b % r.sets ≡ t
  of-set t b g =
      let front = (has-filter_both marked (take n (ranked r t ms)) b g).0 in
      let there : has (ranked r t ms) b ≡ true =
      (and_parts (has (ranked r t ms) b) _ (sym (has-take n (ranked r t ms) b) ∙ front)).0 in
      eqb-true (b % r.sets) t (true_from_ne_false (eqb (b % r.sets) t)
      (λ e. false≢true (sym (absent r t b ms e) ∙ there)))

  to-set : (k b : ℕ) → has (dirty_to k) b ≡ true
      → (b % r.sets < k) × (has (dirty_of (b % r.sets)) b ≡ true)
  to-set zero b g = cc
  to-set (suc k) b g = elim (or_cases (has (dirty_to k) b) (has (dirty_of k) b)
      (sym (has-append (dirty_to k) (dirty_of k) b) ∙ g)) [
        | inl p ↦ let rest = to-set k b p in
            let lt = rest.0 in (omega arith, rest.1)
        | inr p ↦ let e = of-set k b p in (
          omega arith,
          subst (λ t. has (dirty_of t) b ≡ true) (sym e) p,
        )
      ]

  set-to : (k b : ℕ) → b % r.sets < k → has (dirty_of (b % r.sets)) b ≡ true
      → has (dirty_to k) b ≡ true
  set-to zero b lt g = absurd (omega arith)
  set-to (suc k) b lt g = has-append (dirty_to k) (dirty_of k) b ∙ elim (cases_lt (b % r.sets) k) [
    | inl less ↦ or_left (has (dirty_to k) b) (has (dirty_of k) b) (set-to k b less g)
    | inr far ↦ let e : b % r.sets ≡ k = omega arith in
        or_right (has (dirty_to k) b) (has (dirty_of k) b)
        (subst (λ t. has (dirty_of t) b ≡ true) e g)
  ]

  once-of : (t : ℕ) → IsOnce (dirty_of t)
  once-of t = IsOnce-filter marked (take n (ranked r t ms))
      (IsOnce-take n (ranked r t ms) (IsOnce-ranked r st.lru t ms))

  once-to : (k : ℕ) → IsOnce (dirty_to k)
  once-to zero = tt
  once-to (suc k) = once-append (dirty_to k) (dirty_of k) (once-to k) (once-of k)
      (λ z g p. let lt = (to-set k z g).0 in let e = of-set k z p in absurd (omega arith))

  of-dirty : (b : ℕ) → has (dirty_of (b % r.sets)) b ≡ true → is_dirty q h b ≡ true
  unfolding is_dirty
  of-dirty b g =
      let both = has-filter_both marked (take n (ranked r (b % r.sets) ms)) b g in
      let parts = and_parts r.wback (ltb (dirty_level r h b) n) both.1 in
      and_from (r.wback && is_resident q (renewals q h) b) (is_written q h b)
      (and_from r.wback (is_resident q (renewals q h) b) parts.0
      (resident-take r st n h b ∙ both.0))
      (written-level r st n pos le h b ∙ parts.1)

  dirty-of : (b : ℕ) → is_dirty q h b ≡ true → has (dirty_of (b % r.sets)) b ≡ true
  unfolding is_dirty
  dirty-of b d =
      let parts = and_parts (r.wback && is_resident q (renewals q h) b) (is_written q h b) d in
      let inner = and_parts r.wback (is_resident q (renewals q h) b) parts.0 in
      filter-has marked (take n (ranked r (b % r.sets) ms)) b
      (sym (resident-take r st n h b) ∙ inner.1)
      (and_from r.wback (ltb (dirty_level r h b) n) inner.0
      (sym (written-level r st n pos le h b) ∙ parts.1))

  -- the dirty blocks of all sets are all dirty blocks
  all-sets : 0 < r.sets → length (dirty_to r.sets) ≡ length (dirty_blocks q h)
  all-sets setful = once-length (dirty_to r.sets) (dirty_blocks q h) (once-to r.sets)
      (dirty-once q h)
      (λ z g. dirty-has q h z (of-dirty z (to-set r.sets z g).1))
      (λ z g. set-to r.sets z (mod-lt z setful) (dirty-of z (has-dirty q h z g)))

  none-empty : (j k : ℕ) → dirty_slot_count r.wback n (take j (replicate k no_slot)) ≡ 0
  none-empty zero k = refl
  none-empty (suc j) zero = refl
  none-empty (suc j) (suc k) = none-empty j k

  -- how many are dirty among the first slots of a row that shows some blocks
  abbrev shown_dirty : ℕ → ℕ → List ℕ → ℕ
  shown_dirty j k bs =
      dirty_slot_count r.wback n (take j (map (slot_at r h) bs ++ replicate k no_slot))

  -- as many as of the first of these blocks
  count-shown : (j k : ℕ) (bs : List ℕ) → shown_dirty j k bs ≡ length (filter marked (take j bs))
  count-shown zero k bs = refl
  count-shown (suc j) k [] = none-empty (suc j) k
  count-shown (suc j) k (b ∷ bs) =
      let rest = map (slot_at r h) bs ++ replicate k no_slot in
      let dirty = filter (is_dirty_slot r.wback n) (take j rest) in
      (elim (marked b) as (λ t. length (cond t (slot_at r h b ∷ dirty) dirty)
      ≡ length (cond t (b ∷ filter marked (take j bs)) (filter marked (take j bs)))) [
        | true ↦ let e = count-shown j k bs in omega arith
        | false ↦ count-shown j k bs
      ])

  module _ (xs : ℕ → List Slot) (rows : (t : ℕ) → t < r.sets → xs t ≡ slots_of r h t) where
    abbrev part : ℕ → List Slot
    part t = take n (xs t)

    count-row : (t : ℕ) → t < r.sets → dirty_slot_count r.wback n (part t) ≡ length (dirty_of t)
    unfolding slots_of
    count-row t below =
        let ranks = ranked r t ms in
        ap (dirty_slot_count r.wback n)
        (ap (take n) (rows t below)
        ∙ take-take n r.assoc (map (slot_at r h) ranks ++ replicate r.assoc no_slot) le)
        ∙ count-shown n r.assoc ranks

    count-rows : (k : ℕ) → k ≤ r.sets
        → dirty_slot_count_in_rows r.wback n xs k ≡ length (dirty_to k)
    count-rows zero below = refl
    count-rows (suc k) below =
        let before = count-rows k (omega arith) in
        let here = count-row k (omega arith) in
        let both = length-append (dirty_to k) (dirty_of k) in
        omega arith

-- as many slots of a stack are dirty in n ways as a cache of n ways has dirty blocks
pub dirty-slots : (s : Stack) (h : History) → StackStandsFor s h → (n : ℕ) → 0 < n
    → n ≤ (rules_of_rows s).assoc
    → dirty_slot_count_in_rows (rules_of_rows s).wback n (row_slots s) (rules_of_rows s).sets
    ≡ length (dirty_blocks (with_ways n (rules_of_rows s)) h)
dirty-slots s h stands n pos le =
    count-rows (rules_of_rows s) (stacked s) n pos le h (row_slots s) stands.rows
    (rules_of_rows s).sets (omega arith)
    ∙ all-sets (rules_of_rows s) (stacked s) n pos le h (some-sets s)
