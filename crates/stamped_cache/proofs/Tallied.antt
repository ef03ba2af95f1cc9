-- What a cache counts, event by event.
use Rattle.std.proofs.Common.{◌≡◌, ℕ, ◌+◌, ◌^◌, ◌<◌, ◌≤◌, Bool, true, false, cond, not, ◌&&◌, []}
use Rattle.std.proofs.Common.{Option, Some, None, is_some}
use Rattle.std.proofs.Common.{◌∷◌, length, refl, sym, ap, subst, ◌∙◌, arith}
use Rattle.cache_core.specs.declared.access.Access.{Access}
use Rattle.cache_core.specs.declared.access.Outcome.{Outcome}
use Rattle.cache_core.specs.declared.counts.Counts.{Counts}
use Rattle.cache_core.specs.History.{History, Rules, access, block_of, flush, is_write}
use Rattle.cache_core.specs.Counting.{AreWithin, IsWithin, with_flush, with_one}
use Rattle.cache_core.specs.Counts.{counts_of, flushed_back, flushes_in, no_counts, tally}
use Rattle.cache_core.specs.Dirty.{dirty_blocks, is_dirty, is_written}
use Rattle.cache_core.specs.Kinds.{shadow_of}
use Rattle.cache_core.specs.Parts.{one_if}
use Rattle.cache_core.specs.Residents.{hits, is_resident, renewals}
use Rattle.cache_core.proofs.CacheFacts.{AreWithin-with_access, IsWithin-with_one}
use Rattle.cache_core.proofs.Steps.{counts-step, flush-counts, outcome_of-hit}
use Rattle.grid_core.specs.FullyAssociative.{shadow_misses}
use Rattle.grid_core.specs.WriteBacks.{is_first_write}
use Rattle.grid_core.proofs.WriteBacks.{backs-are-first-writes}
use Rattle.grid_core.proofs.WrittenBack.{none-dirty}
use Rattle.stamped_cache.specs.declared.tally.Tally.{Tally}
use Rattle.stamped_cache.specs.Counted.{CountsAccess, IsTally, IsWithinTally}

module _ (r : Rules) (h : History) (x : Access) where
  -- the misses of the shadow
  pub far-next : (near : Bool) → near ≡ hits (shadow_of r) (renewals (shadow_of r) h) x
      → with_one x (not near) (shadow_misses r h) ≡ shadow_misses r (access x ∷ h)
  unfolding shadow_misses
  far-next near is = ap (λ t. with_one x (not t) (counts_of (shadow_of r) h).misses)
      (is ∙ sym (outcome_of-hit (shadow_of r) h x))
      ∙ ap (λ (c : Counts). c.misses) (counts-step (shadow_of r) h x)

  -- the first writes
  pub first-next : tally (is_first_write r) (access x ∷ h)
      ≡ one_if (is_first_write r h x) + tally (is_first_write r) h
  unfolding tally
  first-next = refl

  pub first-hit : (written : Bool) → r.wback ≡ true
      → is_resident r (renewals r h) (block_of r x) ≡ true
      → written ≡ is_written r h (block_of r x)
      → is_first_write r h x ≡ (is_write x && not written)
  unfolding is_dirty
  first-hit written back hit is =
      ap (λ t. is_write x && not (t && is_resident r (renewals r h) (block_of r x)
      && is_written r h (block_of r x))) back
      ∙ ap (λ t. is_write x && not (t && is_written r h (block_of r x))) hit
      ∙ ap (λ t. is_write x && not t) (sym is)

  pub first-load : r.wback ≡ true → is_resident r (renewals r h) (block_of r x) ≡ false
      → is_first_write r h x ≡ is_write x
  unfolding is_dirty
  first-load back miss =
      ap (λ t. is_write x && not (t && is_resident r (renewals r h) (block_of r x)
      && is_written r h (block_of r x))) back
      ∙ ap (λ t. is_write x && not (t && is_written r h (block_of r x))) miss
      ∙ and-true (is_write x)
    where
      and-true : (t : Bool) → (t && true) ≡ t
      and-true true = refl
      and-true false = refl

-- a flush adds no first write
pub first-flush : (r : Rules) (h : History)
    → tally (is_first_write r) h ≡ tally (is_first_write r) (flush ∷ h)
unfolding tally
first-flush r h = refl

-- and at the start there are none
pub first-start : (r : Rules) → 0 ≡ tally (is_first_write r) []
unfolding tally
first-start r = refl

-- a flush writes back what was made dirty and was not written back
module _ (r : Rules) (allocates : r.walloc ≡ true) (some : 0 < r.assoc) (h : History) where
  written-flush : (c : Counts) (first : ℕ) → c ≡ counts_of r h
      → (r.wback ≡ true → first ≡ tally (is_first_write r) h) → (t : Bool) → r.wback ≡ t
      → cond t first c.written_back ≡ c.written_back + length (dirty_blocks r h)
  written-flush c first is firsts true back =
      let all = backs-are-first-writes r allocates back some h in
      let same = firsts back in
      let now = ap (λ (k : Counts). k.written_back) is in
      omega arith
  written-flush c first is firsts false through =
      let none = none-dirty r through h in
      omega arith

  pub counts-flush : (c new : Counts) (first : ℕ) → c ≡ counts_of r h
      → (r.wback ≡ true → first ≡ tally (is_first_write r) h)
      → new ≡ record c {
        written_back = cond r.wback first c.written_back;
        flushes = c.flushes + 1;
      }
      → new ≡ counts_of r (flush ∷ h)
  counts-flush c new first is firsts now =
      now
      ∙ ap (λ n. record c { written_back = n; flushes = c.flushes + 1 })
      (written-flush c first is firsts r.wback refl)
      ∙ ap (with_flush (length (dirty_blocks r h))) is
      ∙ flush-counts r h (length (dirty_blocks r h)) refl

-- how large the counts are
one_if-low : (t : Bool) → one_if t ≤ 1
one_if-low true = omega arith
one_if-low false = omega arith

few-more : (n : ℕ) (x : Access) (o : Outcome) (far first : Bool) (old new : Tally)
    → IsWithinTally n old → CountsAccess x o far first old new → IsWithinTally (n + 1) new
few-more n x o far first old new few counts = record {
  counts = subst (λ c. AreWithin c (n + 1)) (sym counts.counts)
      (AreWithin-with_access x o old.counts n few.counts);
  far = subst (λ p. IsWithin p (n + 1)) (sym counts.far)
      (IsWithin-with_one x far old.far n few.far);
  first_writes =
      let one = one_if-low first in
      let low = few.first_writes in
      let now = counts.first_writes in
      omega arith;
}

-- after one more access
pub tally-more : (x : Access) (o : Outcome) (far first : Bool) (old new : Tally) → IsTally old
    → old.served < 2 ^ 44 → CountsAccess x o far first old new → IsTally new
tally-more x o far first old new is few counts = record {
  within = subst (λ n. IsWithinTally n new) (sym counts.served)
      (few-more old.served x o far first old new is.within counts);
  few = (let e = counts.served in omega arith);
}

pub counts-start : (r : Rules) → no_counts ≡ counts_of r []
unfolding counts_of tally flushes_in flushed_back
counts-start r = refl

-- an address of a block that is written back, if one is
abbrev pub any_back : Bool → Option ℕ
any_back back = cond back (Some 0) None

pub any_back-is : (back : Bool) → is_some (any_back back) ≡ back
any_back-is true = refl
any_back-is false = refl
