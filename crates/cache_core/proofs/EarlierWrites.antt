-- Each block that is written back is charged to a write.
use Rattle.std.proofs.Common.{◌≡◌, ◌+◌, ◌≤◌, [], ◌∷◌, length, is_some, refl, ap, arith}
use Rattle.std.proofs.Math.Bool.{and-true}
use Rattle.cache_core.specs.declared.access.Access.{Access}
use Rattle.cache_core.specs.History.{Rules, History, access, flush, is_write}
use Rattle.cache_core.specs.Residents.{renewals, victim}
use Rattle.cache_core.specs.Dirty.{dirty_blocks}
use Rattle.cache_core.specs.Parts.{one_if, outcome_of}
use Rattle.cache_core.specs.Counts.{tally, counts_of, flushed_back}
use Rattle.cache_core.specs.Laws.{WriteBacksAreOfWrites, WriteBacksHaveEarlierWrites}
use Rattle.cache_core.specs.Laws.{PartsAreCharged, FlushesLeaveNoneDirty}
use Rattle.cache_core.proofs.Owed.{backs, pays, victim-counts}

-- an access writes back and leaves dirty no more blocks than were dirty, and one more for a write
pub write_backs_of_writes : WriteBacksAreOfWrites
unfolding outcome_of
write_backs_of_writes r h x = backs r h x

-- an access sends and leaves dirty at most one block more than was dirty, or two where it writes
pub parts_charged : PartsAreCharged
parts_charged r h x = pays r h x

-- after a flush nothing is dirty
pub flushes_leave_none_dirty : FlushesLeaveNoneDirty
unfolding dirty_blocks renewals
flushes_leave_none_dirty r h = refl

nothing-dirty : (r : Rules) → dirty_blocks r [] ≡ []
unfolding dirty_blocks renewals
nothing-dirty r = refl

-- so a history has written back, and has left dirty, no more blocks than it has writes
backs-and-dirty : (r : Rules) (h : History) → (counts_of r h).written_back
    + length (dirty_blocks r h) ≤ (counts_of r h).fetches.write
unfolding counts_of tally flushed_back
backs-and-dirty r [] = omega (arith, ap length (nothing-dirty r))
backs-and-dirty r (flush ∷ h) =
    omega (arith, backs-and-dirty r h, ap length (flushes_leave_none_dirty r h))
backs-and-dirty r (access x ∷ h) =
    omega (
      arith,
      backs-and-dirty r h,
      write_backs_of_writes r h x,
      ap one_if (and-true (is_write x)),
    )

back-was_dirty : (r : Rules) (h : History) (x : Access)
    → one_if (is_some (outcome_of r h x).back) ≤ length (dirty_blocks r h)
unfolding outcome_of
back-was_dirty r h x = victim-counts r h (victim r h x)

-- and what its last event writes back was dirty before that event
pub write_backs_have_earlier_writes : WriteBacksHaveEarlierWrites
unfolding counts_of tally flushed_back
write_backs_have_earlier_writes r h flush = omega (arith, backs-and-dirty r h)
write_backs_have_earlier_writes r h (access x) =
    omega (arith, backs-and-dirty r h, back-was_dirty r h x)
