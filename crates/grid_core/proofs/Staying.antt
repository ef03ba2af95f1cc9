-- Rows in which the block of an access stays first.
use Rattle.std.proofs.Common.{◌≡◌, ℕ, ◌%◌, ◌<◌, ◌≤◌, true, ltb, ◌∷◌, refl, sym, ap, ◌∙◌}
use Rattle.std.proofs.Math.Nat.{mod-lt}
use Rattle.std.proofs.lemmas.Bool.{lt-ltb}
use Rattle.cache_core.specs.declared.access.Access.{Access}
use Rattle.cache_core.specs.History.{History, access, block_of, is_write}
use Rattle.cache_core.specs.Residents.{hits, renewals}
use Rattle.grid_core.specs.declared.stack.Stack.{Stack}
use Rattle.grid_core.specs.Slots.{next_slots}
use Rattle.grid_core.specs.Standing.{StackStandsFor, StaysFirst, row_slots, rules_of_rows, slots_of}
use Rattle.grid_core.specs.Ways.{with_ways}
use Rattle.grid_core.proofs.Distances.{hits-distance}
use Rattle.grid_core.proofs.Repeats.{row-first}
use Rattle.grid_core.proofs.StackRules.{some-sets, stacked}
use Rattle.grid_core.proofs.StackStep.{rows-next}

module _ (s : Stack) (h : History) (x : Access) (first : StaysFirst (rules_of_rows s) h x) where
  -- the rows are those after the access
  pub rows-stay : StackStandsFor s h → (t : ℕ) → t < (rules_of_rows s).sets
      → row_slots s t ≡ slots_of (rules_of_rows s) (access x ∷ h) t
  rows-stay st =
      let r = rules_of_rows s in
      let b = block_of r x in
      let xs = row_slots s in
      let inside : b % r.sets < r.sets = mod-lt b (some-sets s) in
      rows-next r (stacked s) h x xs st.rows inside xs
      (st.rows (b % r.sets) inside
      ∙ row-first r (stacked s) b h (is_write x) first.first first.dirty
      ∙ ap (next_slots b (is_write x)) (sym (st.rows (b % r.sets) inside)))
      (λ t apart. refl)

  -- no cache misses
  pub none-misses : (n : ℕ) → 0 < n → n ≤ (rules_of_rows s).assoc
      → hits (with_ways n (rules_of_rows s)) (renewals (with_ways n (rules_of_rows s)) h) x ≡ true
  none-misses n some fits =
      hits-distance (rules_of_rows s) (stacked s) n fits h x ∙ ap (λ d. ltb d n) first.first
      ∙ lt-ltb 0 n some
