use Rattle.run_threads.specs.Ends.{SameSplitterEnds, SentSame}
use Rattle.run_threads.proofs.split.publish.Given as goal

abbrev pub invariant-loop : goal.invariant-loop
invariant-loop g l =
    SameSplitterEnds l.fn.ends l.ends
    × SentSame l.fn.ends l.ends
