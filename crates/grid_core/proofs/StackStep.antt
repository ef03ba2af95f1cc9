-- One access to all rows.
use Rattle.std.proofs.Common.{◌≡◌, ◌≢◌, ℕ, suc, ◌+◌, ◌-◌, ◌*◌, ◌/◌, ◌%◌, ◌<◌, ◌≤◌, Bool}
use Rattle.std.proofs.Common.{true, false, not, ◌||◌, ltb, eqb, List, ◌∷◌, if◌then◌else◌, refl}
use Rattle.std.proofs.Common.{get_or, drop, length, min, sym, ap, subst, ◌∙◌, arith}
use Rattle.std.specs.Prelude.{vec_len}
use Rattle.std.specs.List.{find}
use Rattle.std.specs.Option.{option_map, option_map_or}
use Rattle.std.proofs.lemmas.Bool.{and_parts, eqb-true, eqb-false, le-ltb, ltb-true, ltb-false}
use Rattle.std.proofs.lemmas.List.{length-map, length-take-le, length-drop}
use Rattle.std.proofs.Math.Nat.{mod-lt, mul-le-mul_right}
use Rattle.cache_core.specs.declared.access.Access.{Access}
use Rattle.cache_core.specs.declared.geometry.Geometry.{Geometry}
use Rattle.cache_core.specs.Geometry.{bsize_of, sets_of}
use Rattle.cache_core.specs.History.{Rules, History, access, block_of, is_write}
use Rattle.cache_core.specs.Residents.{hits, renewals}
use Rattle.cache_core.specs.Parts.{outcome_of}
use Rattle.cache_core.specs.Row.{row}
use Rattle.cache_core.proofs.Cases.{by_cases}
use Rattle.cache_core.proofs.Lawful.{sane_of}
use Rattle.cache_core.proofs.MapStep.{suc_pred}
use Rattle.marked_list.specs.Recency.{index_of}
use Rattle.grid_core.specs.Slot.{Slot, no_slot, slot_of, stride_of, used_slot}
use Rattle.grid_core.specs.declared.stack.Stack.{Stack}
use Rattle.grid_core.specs.Ways.{with_ways, IsStacked, stack_distance}
use Rattle.grid_core.specs.Slots.{holds, next_slots, slot_level}
use Rattle.grid_core.specs.Slots.{clean_in, level_after, level_in, lost_in, stays_in}
use Rattle.grid_core.specs.Histograms.{clean_ways}
use Rattle.grid_core.specs.Levels.{dirty_level}
use Rattle.grid_core.specs.Pushed.{dirty_in}
use Rattle.grid_core.specs.Standing.{StackStandsFor, StaysFirst, row_slots, rules_of_rows, slots_of}
use Rattle.grid_core.proofs.Distances.{hits-distance}
use Rattle.grid_core.proofs.Fronts.{low-level, moved-back}
use Rattle.grid_core.proofs.SlotTurns.{after-le, distance-le, index-slots, level-le, seen-level}
use Rattle.grid_core.proofs.SlotTurns.{slots-here, slots-other}
use Rattle.grid_core.proofs.StackRules.{stacked}
use Rattle.grid_core.proofs.Victims.{back-is}

module _ (r : Rules) (st : IsStacked r) (h : History) (x : Access) (xs : ℕ → List Slot)
    (rows : (t : ℕ) → t < r.sets → xs t ≡ slots_of r h t)
    (inside : block_of r x % r.sets < r.sets) where
  abbrev b : ℕ
  b = block_of r x

  abbrev s : ℕ
  s = b % r.sets

  -- the position tells the hits of all numbers of ways
  hits-now : (p : ℕ) → p ≡ index_of (holds b) (xs s) → (n : ℕ) → n ≤ r.assoc
      → hits (with_ways n r) (renewals (with_ways n r) h) x ≡ ltb p n
  hits-now p is n le = hits-distance r st n le h x
      ∙ ap (λ d. ltb d n)
      (sym (is ∙ ap (index_of (holds b)) (rows s inside) ∙ index-slots r st h b))

  -- so does the distance of the block
  position-now : (p : ℕ) → p ≡ index_of (holds b) (xs s) → p ≡ stack_distance r h b
  position-now p is = is ∙ ap (index_of (holds b)) (rows s inside) ∙ index-slots r st h b

  -- so is it told in how many ways the block is not dirty
  clean-now : (q : ℕ) → q ≡ clean_in (level_in b (xs s))
      (index_of (holds b) (xs s)) r.assoc → q ≡ clean_ways r h b
  clean-now q is =
      let le = after-le false (dirty_level r h b) (stack_distance r h b) r.assoc (level-le r h b)
      (distance-le r h b) in
      let low : min (clean_ways r h b) r.assoc ≡ clean_ways r h b = omega arith in
      is ∙ ap (λ l. clean_in (level_in b l) (index_of (holds b) l) r.assoc) (rows s inside)
      ∙ ap (λ n. min n r.assoc) (seen-level r st h b false) ∙ low

  -- so does the level of its slot tell its dirty level, where it is first
  level-first : stack_distance r h b ≡ 0 → level_in b (xs s) ≡ dirty_level r h b
  level-first near =
      let v = level_in b (slots_of r h s) in
      ap (level_in b) (rows s inside)
      ∙ sym (low-level v) ∙ ap (level_after false v) (sym (index-slots r st h b ∙ near))
      ∙ seen-level r st h b false
      ∙ ap (level_after false (dirty_level r h b)) near ∙ low-level (dirty_level r h b)

  -- a row that stays as it is tells that the block is first, and dirty if the access writes
  first-now : stays_in b (is_write x) (xs s) ≡ true → StaysFirst r h x
  first-now e =
      let p = index_of (holds b) (xs s) in
      let l = level_in b (xs s) in
      let each = and_parts (eqb p 0) (not (is_write x) || eqb l 0) e in
      let near = sym (position-now p refl) ∙ eqb-true p 0 each.0 in
      record {
        first = near;
        dirty = λ w. sym (level-first near)
            ∙ eqb-true l 0 (subst (λ t. (not t || eqb l 0) ≡ true) w each.1);
      }

  -- the rows are those after the access
  pub rows-next : (ys : ℕ → List Slot) → ys s ≡ next_slots b (is_write x) (xs s)
      → ((t : ℕ) → t ≢ s → ys t ≡ xs t) → (t : ℕ) → t < r.sets
      → ys t ≡ slots_of r (access x ∷ h) t
  rows-next ys now others t below = by_cases (eqb s t)
      (λ e. subst (λ z. ys z ≡ slots_of r (access x ∷ h) z) (eqb-true s t e)
      (now ∙ ap (next_slots b (is_write x)) (rows s inside) ∙ sym (slots-here r st h x)))
      (λ e. others t (λ same. eqb-false s t e (sym same)) ∙ rows t below
      ∙ sym (slots-other r st h x t e))

  -- what the cache of n ways writes back
  back-now : (n m : ℕ) → n ≡ suc m → n ≤ r.assoc → (v : Slot)
      → v ≡ get_or (xs s) m no_slot
      → hits (with_ways n r) (renewals (with_ways n r) h) x ≡ false
      → (outcome_of (with_ways n r) h x).back ≡ option_map (λ z. z * r.bsize) (dirty_in r.wback n v)
  back-now n m size le v is miss = back-is r st n m size le h x miss
      ∙ ap (λ t. option_map (λ z. z * r.bsize) (dirty_in r.wback n t))
      (sym (is ∙ ap (λ l. get_or l m no_slot) (rows s inside)))

-- behind the first n of a row stands the slot that was the last of them, where the block of the
-- access did not stand among them
behind-is : (ways b : ℕ) (write : Bool) (old new : List Slot) (last : Slot) (n m : ℕ)
    → n ≡ suc m → n ≤ ways → length old ≡ ways → n ≤ index_of (holds b) old
    → new ≡ next_slots b write old → last ≡ lost_in (index_of (holds b) old) old
    → (if ltb n ways then get_or new n no_slot else last) ≡ get_or old m no_slot
behind-is ways b write old new last n m size le long far now lost = (elim (ltb n ways) as (λ t.
    ltb n ways ≡ t → (if t then get_or new n no_slot else last) ≡ get_or old m no_slot) [
      | true ↦ λ e.
          let lt = ltb-true n ways e in
          let front = used_slot b (level_after write (option_map_or slot_level (find (holds b) old)
          (length old)) (index_of (holds b) old)) in
          ap (λ l. get_or l n no_slot) now
          ∙ moved-back (holds b) front old n no_slot (omega arith) far
          ∙ ap (λ k. get_or (front ∷ old) k no_slot) size
      | false ↦ λ e.
          let ge = ltb-false n ways e in
          let at : length old - 1 ≡ m = omega arith in
          lost ∙ ap (λ t. if t then no_slot else get_or old (length old - 1) no_slot)
          (le-ltb (index_of (holds b) old) (length old) (omega arith))
          ∙ ap (λ k. get_or old k no_slot) at
    ]) refl

-- the row of a set is among the slots
row-inside : (v : Stack) (s : ℕ) → s < sets_of v.geometry → (s + 1) * v.ways ≤ vec_len v.slots
row-inside v s lt =
    let up : s + 1 ≤ sets_of v.geometry = omega arith in
    let le = mul-le-mul_right v.ways up in
    let room = v.room in
    omega arith

-- a row of a stack is as long as it has ways
pub row-whole : (v : Stack) (s : ℕ) → s < sets_of v.geometry → length (row_slots v s) ≡ v.ways
row-whole v s lt =
    let le = row-inside v s lt in
    let rest = length-drop (s * v.ways) v.slots.items in
    length-map (row v.ways s v.slots.items)
    (slot_of (stride_of v.geometry) (sets_of v.geometry) s)
    ∙ length-take-le v.ways (drop (s * v.ways) v.slots.items) (omega (arith, v.slots.ok.0))

-- the set of a block is one of the sets
pub set-below : (v : Stack) (b : ℕ) {s : ℕ} → s ≡ b % sets_of v.geometry → s < sets_of v.geometry
set-below v b is = rw is (mod-lt b (sane_of v.geometry).sets_pos)

-- and its row is among the slots
pub row-room : (v : Stack) (b : ℕ) {s : ℕ} → s ≡ b % sets_of v.geometry
    → (s + 1) * v.ways ≤ vec_len v.slots
row-room v b {s} is = row-inside v s (set-below v b is)

-- an access to a stack, by the block and the set that the code works out for it
module _ (v : Stack) (h : History) (st : StackStandsFor v h) (x : Access) {block set : ℕ}
    {write : Bool} (block-is : block ≡ x.addr / bsize_of v.geometry)
    (set-is : set ≡ block % sets_of v.geometry)
    (write-is : write ≡ is_write x) where
  abbrev g : Geometry
  g = v.geometry

  abbrev xs : ℕ → List Slot
  xs = row_slots v

  abbrev at : ℕ
  at = x.addr / bsize_of g

  below : at % sets_of g < sets_of g
  below = set-below v at refl

  -- what holds of this block and set holds of those of the rules
  as-ruled : {X : Type 0} (f : ℕ → ℕ → X) → f block set ≡ f at (at % sets_of g)
  as-ruled f = ap (λ b. f b set) block-is
      ∙ ap (f at) (set-is ∙ ap (λ b. b % sets_of g) block-is)

  found-at : {p : ℕ} → p ≡ index_of (holds block) (xs set)
      → p ≡ index_of (holds at) (xs (at % sets_of g))
  found-at is = is ∙ as-ruled (λ b t. index_of (holds b) (xs t))

  -- where the code finds the block is its distance
  pub distance-turned : {p : ℕ} → p ≡ index_of (holds block) (xs set)
      → p ≡ stack_distance (rules_of_rows v) h (block_of (rules_of_rows v) x)
  unfolding rules_of_rows
  distance-turned {p} is =
      position-now (rules_of_rows v) (stacked v) h x xs st.rows below p (found-at is)

  -- and in how many ways it finds it clean, it is so
  pub clean-turned : {q : ℕ} → q ≡ clean_in (level_in block (xs set))
      (index_of (holds block) (xs set)) v.ways
      → q ≡ clean_ways (rules_of_rows v) h (block_of (rules_of_rows v) x)
  unfolding rules_of_rows
  clean-turned {q} is = clean-now (rules_of_rows v) (stacked v) h x xs st.rows below q (is
      ∙ as-ruled (λ b t. clean_in (level_in b (xs t)) (index_of (holds b) (xs t)) v.ways)
      ∙ ap (clean_in (level_in at (xs (at % sets_of g)))
      (index_of (holds at) (xs (at % sets_of g)))) v.width)

  -- a row that the code leaves as it is tells that the block is first
  pub first-turned : stays_in block write (xs set) ≡ true → StaysFirst (rules_of_rows v) h x
  unfolding rules_of_rows
  first-turned e = first-now (rules_of_rows v) (stacked v) h x xs st.rows below
      (sym (ap (λ w. stays_in block w (xs set)) write-is
      ∙ as-ruled (λ b t. stays_in b (is_write x) (xs t))) ∙ e)

  -- the rows that the code leaves are those after the access
  pub rows-turned : (ys : ℕ → List Slot) → ys set ≡ next_slots block write (xs set)
      → ((t : ℕ) → t ≢ set → ys t ≡ xs t) → (t : ℕ) → t < (rules_of_rows v).sets
      → ys t ≡ slots_of (rules_of_rows v) (access x ∷ h) t
  unfolding rules_of_rows
  rows-turned ys now others = rows-next (rules_of_rows v) (stacked v) h x xs st.rows below ys
      (sym (as-ruled (λ b t. ys t)) ∙ now
      ∙ ap (λ w. next_slots block w (xs set)) write-is
      ∙ as-ruled (λ b t. next_slots b (is_write x) (xs t)))
      (λ t apart. others t (λ e. apart (e ∙ as-ruled (λ b t. t))))

  -- the slot behind the first n of the row that it leaves tells what n ways write back
  pub back-turned : (now : List Slot) (last : Slot) → now ≡ next_slots block write (xs set)
      → last ≡ lost_in (index_of (holds block) (xs set)) (xs set)
      → (n : ℕ) → 0 < n → n ≤ (rules_of_rows v).assoc
      → hits (with_ways n (rules_of_rows v)) (renewals (with_ways n (rules_of_rows v)) h) x ≡ false
      → (outcome_of (with_ways n (rules_of_rows v)) h x).back
      ≡ option_map (λ z. z * (rules_of_rows v).bsize) (dirty_in (rules_of_rows v).wback n
      (if ltb n v.ways then get_or now n no_slot else last))
  unfolding rules_of_rows
  back-turned now last is lost n some fits miss =
      let p = index_of (holds block) (xs set) in
      let far : n ≤ p = ltb-false p n
      (sym (hits-now (rules_of_rows v) (stacked v) h x xs st.rows below p
      (found-at refl) n fits) ∙ miss) in
      let wide = v.width in
      let long = row-whole v set (set-below v block set-is) in
      back-now (rules_of_rows v) (stacked v) h x xs st.rows below n (n - 1) (suc_pred n some) fits
      (if ltb n v.ways then get_or now n no_slot else last)
      (behind-is v.ways block write (xs set) now last n (n - 1) (suc_pred n some) (omega arith) long
      far is lost ∙ as-ruled (λ b t. get_or (xs t) (n - 1) no_slot))
      miss
