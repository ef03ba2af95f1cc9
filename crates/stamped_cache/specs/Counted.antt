-- What is counted of caches.
use Rattle.std.specs.Prelude.{◌≡◌, ℕ, ◌+◌, ◌^◌, ◌≤◌, Bool, true, false, if◌then◌else◌}
use Rattle.std.specs.Prelude.{Option, Some}
use Rattle.cache_core.specs.declared.access.Access.{Access}
use Rattle.cache_core.specs.declared.access.MissKind.{MissKind}
use Rattle.cache_core.specs.declared.access.Outcome.{Outcome}
use Rattle.cache_core.specs.Counting.{AreWithin, IsWithin, with_access, with_one}
use Rattle.cache_core.specs.Counts.{no_counts, none_by_class}
use Rattle.cache_core.specs.Parts.{one_if}
use Rattle.stamped_cache.specs.declared.tally.Tally.{Tally}

-- the outcome of an access that loads its block, by its kind, the first byte of a dirty block that
-- leaves, if one does, and whether it is a write that is sent on
abbrev pub load_made : MissKind → Option ℕ → Bool → Outcome
load_made kind back through =
    record { hit = false; kind = Some kind; back = back; fetch = true; through = through }

-- what is counted of an access of this outcome, which misses in the shadow or not, and makes its
-- block dirty or not
pub record CountsAccess (x : Access) (o : Outcome) (is_far is_first : Bool) (old new : Tally)
    : Type 0 where
  pub counts : new.counts ≡ with_access x o old.counts
  pub far : new.far ≡ with_one x is_far old.far
  pub first_writes : new.first_writes ≡ one_if is_first + old.first_writes
  pub served : new.served ≡ old.served + 1

-- no count is above n
pub record IsWithinTally (n : ℕ) (t : Tally) : Type 0 where
  pub counts : AreWithin t.counts n
  pub far : IsWithin t.far n
  pub first_writes : t.first_writes ≤ n

-- no count is above the number of events that were counted, of which there are not too many
pub record IsTally (t : Tally) : Type 0 where
  pub within : IsWithinTally t.served t
  pub few : t.served ≤ 2 ^ 44

-- nothing was counted
abbrev pub no_tally : Tally
no_tally = record { counts = no_counts; far = none_by_class; first_writes = 0; served = 0 }

-- what is counted once a flush is added, under write back or not
abbrev pub flushed_tally : Bool → Tally → Tally
flushed_tally wback t = record t {
  counts = record t.counts {
    written_back = if wback then t.first_writes else t.counts.written_back;
    flushes = t.counts.flushes + 1;
  };
  served = t.served + 1;
}
