use Rattle.std.proofs.Common.{◌≡◌}
use Rattle.pipe_rings.specs.Rings.{sent, received, SameTx, SameRx}
use Rattle.run_threads.specs.Waits.{AnswersPublished}
use Rattle.run_threads.proofs.waits.await_message.Given as goal

abbrev pub invariant-loop : goal.invariant-loop
invariant-loop g l =
    SameRx l.fn.ends.from_splitter l.ends.from_splitter
    × SameTx l.fn.ends.to_merge l.ends.to_merge
    × (received l.ends.from_splitter ≡ received l.fn.ends.from_splitter)
    × (sent l.ends.to_merge ≡ sent l.fn.ends.to_merge)
    × AnswersPublished l.ends
