use Rattle.run_threads.specs.Threads.{MergeServed}
use Rattle.run_threads.proofs.merge_thread.merge_all.Given as goal

abbrev pub invariant-loop : goal.invariant-loop
invariant-loop g l =
    MergeServed l.merge l.fn.u l.fn.ends l.u l.ends
