use Rattle.std.proofs.Common.{◌≤◌}
use Rattle.run_threads.specs.Ends.{SameSplitterEnds, SentSame}
use Rattle.run_threads.specs.Waits.{held}
use Rattle.run_threads.proofs.waits.await_rooms.Given as goal

abbrev pub invariant-loop : goal.invariant-loop
invariant-loop g l =
    SameSplitterEnds l.fn.ends l.ends
    × SentSame l.fn.ends l.ends
    × (held l.ends ≤ held l.fn.ends)
