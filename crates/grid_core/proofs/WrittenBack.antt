-- How many blocks a cache has written back, by what its rows have counted.
use Rattle.std.proofs.Common.{◌≡◌, ℕ, ◌+◌, ◌-◌, ◌*◌, ◌<◌, ◌≤◌, Bool, true, false, cond, not, ◌&&◌}
use Rattle.std.proofs.Common.{List, [], ◌∷◌, filter, length, ltb, Option, Some, None, is_some, refl}
use Rattle.std.proofs.Common.{sym, ap, ◌∙◌, arith}
use Rattle.std.proofs.lemmas.Bool.Decides.{nat_tests}
use Rattle.cache_core.specs.declared.access.Access.{Access}
use Rattle.cache_core.specs.declared.counts.PerClass.{PerClass}
use Rattle.cache_core.specs.History.{History, Rules, access, block_of, flush, is_write}
use Rattle.cache_core.specs.Counts.{counts_of, flushed_back, tally}
use Rattle.cache_core.specs.Dirty.{dirty_blocks, is_dirty, is_written, rising}
use Rattle.cache_core.specs.Parts.{dirty_victim, one_if, outcome_of}
use Rattle.cache_core.specs.Residents.{is_resident, renewals, victim}
use Rattle.grid_core.specs.declared.stack.Stack.{Stack}
use Rattle.grid_core.specs.Histograms.{clean_ways, first_in, writes_first}
use Rattle.grid_core.specs.Levels.{dirty_level}
use Rattle.grid_core.specs.Slots.{dirty_slot_count_in_rows, level_after}
use Rattle.grid_core.specs.Standing.{IsCountedIn, StackStandsFor, dirty_slots, row_slots}
use Rattle.grid_core.specs.Standing.{rules_of_rows, written_at}
use Rattle.grid_core.specs.Ways.{IsStacked, stack_distance, with_ways}
use Rattle.grid_core.specs.WriteBacks.{is_first_write}
use Rattle.grid_core.proofs.DirtySlots.{dirty-slots}
use Rattle.grid_core.proofs.Distances.{hits-distance}
use Rattle.grid_core.proofs.Levels.{written-level}
use Rattle.grid_core.proofs.MissParts.{tally-same}
use Rattle.grid_core.proofs.StackRules.{stacked}
use Rattle.grid_core.proofs.WriteBacks.{backs-are-first-writes}

filter-nothing : (p : ℕ → Bool) (xs : List ℕ) → ((x : ℕ) → p x ≡ false) → filter p xs ≡ []
filter-nothing p [] none = refl
filter-nothing p (x ∷ xs) none =
    ap (λ t. cond t (x ∷ filter p xs) (filter p xs)) (none x) ∙ filter-nothing p xs none

-- under write through nothing is dirty, so nothing is written back
module _ (r : Rules) (through : r.wback ≡ false) where
  clean : (h : History) (b : ℕ) → is_dirty r h b ≡ false
  unfolding is_dirty
  clean h b = ap (λ t. t && is_resident r (renewals r h) b && is_written r h b) through

  pub none-dirty : (h : History) → length (dirty_blocks r h) ≡ 0
  unfolding dirty_blocks
  none-dirty h = ap (λ l. length (rising l))
      (filter-nothing (is_dirty r h) (renewals r h) (clean h))

  no-victim : (h : History) (o : Option ℕ) → is_some (dirty_victim r h o) ≡ false
  no-victim h None = refl
  no-victim h (Some b) = ap (λ t. is_some (cond t (Some (b * r.bsize)) None)) (clean h b)

  no-back : (h : History) (x : Access) → is_some (outcome_of r h x).back ≡ false
  unfolding outcome_of
  no-back h x = no-victim h (victim r h x)

  none-back : (h : History)
      → tally (λ g x. is_some (outcome_of r g x).back) h + flushed_back r h ≡ 0
  unfolding tally flushed_back
  none-back [] = refl
  none-back (flush ∷ h) =
      let rest = none-back h in
      let one = none-dirty h in
      omega arith
  none-back (access x ∷ h) =
      let rest = none-back h in
      let one : one_if (is_some (outcome_of r h x).back) ≡ 0 = ap one_if (no-back h x) in
      omega arith

  pub nothing-written : (h : History) → (counts_of r h).written_back ≡ 0
  unfolding counts_of
  nothing-written h = none-back h

-- the greater of two is below a bound where both are
both-below : (l d n : ℕ) → ltb (level_after false l d) n ≡ (ltb d n && ltb l n)
both-below l d n = grind (arith, nat_tests)

module _ (r : Rules) (st : IsStacked r) (n : ℕ) (some : 0 < n) (fits : n ≤ r.assoc) where
  abbrev q : Rules
  q = with_ways n r

  -- the block of an access is dirty in n ways if it is clean in fewer at most
  dirty-ways : r.wback ≡ true → (h : History) (x : Access)
      → is_dirty q h (block_of r x) ≡ ltb (clean_ways r h (block_of r x)) n
  unfolding is_dirty
  dirty-ways back h x =
      let b = block_of r x in
      ap (λ t. t && is_resident q (renewals q h) b && is_written q h b) back
      ∙ ap (λ t. t && is_written q h b) (hits-distance r st n fits h x)
      ∙ ap (λ t. ltb (stack_distance r h b) n && t) (written-level r st n some fits h b)
      ∙ sym (both-below (dirty_level r h b) (stack_distance r h b) n)

  writes-are : r.wback ≡ true → (h : History)
      → tally (λ g x. is_write x && writes_first r n g x) h ≡ tally (is_first_write q) h
  writes-are back h = tally-same (λ g x. is_write x && writes_first r n g x) (is_first_write q)
      (λ g x. twice (is_write x) (not (ltb (clean_ways r g (block_of r x)) n))
      ∙ ap (λ t. is_write x && not t) (sym (dirty-ways back g x))) h
    where
      twice : (a b : Bool) → (a && (a && b)) ≡ (a && b)
      twice true b = refl
      twice false b = refl

-- the dirty slots in the words of the rules
slots-are : (s : Stack) (n : ℕ)
    → dirty_slots s n ≡ dirty_slot_count_in_rows (rules_of_rows s).wback n (row_slots s)
    (rules_of_rows s).sets
unfolding rules_of_rows
slots-are s n = refl

-- what the rows say was written back is what was
pub written-is : (sizes : List ℕ) (s : Stack) (h : History) → StackStandsFor s h
    → IsCountedIn sizes h s → (n : ℕ) → 0 < n → n ≤ (rules_of_rows s).assoc
    → written_at s n ≡ (counts_of (with_ways n (rules_of_rows s)) h).written_back
unfolding rules_of_rows
written-is sizes s h stands counted n some fits =
    let r = rules_of_rows s in
    let st = stacked s in
    let q = with_ways n r in
    (elim r.wback as (λ w. r.wback ≡ w → cond w ((first_in s.histogram n).write - dirty_slots s n) 0
    ≡ (counts_of q h).written_back) [
      | true ↦ λ back.
          let first : (first_in s.histogram n).write ≡ tally (is_first_write q) h =
          ap (λ (p : PerClass). p.write) (counted.first n some)
          ∙ writes-are r st n some fits back h in
          let law = backs-are-first-writes q st.allocates back some h in
          let dirty : dirty_slots s n ≡ length (dirty_blocks q h) =
          slots-are s n ∙ dirty-slots s h stands n some fits in
          omega arith
      | false ↦ λ through. sym (nothing-written q through h)
    ]) refl
