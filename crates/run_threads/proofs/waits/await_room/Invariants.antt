use Rattle.std.proofs.Common.{◌≡◌, ◌≤◌, length}
use Rattle.pipe_rings.specs.Rings.{sent, posted, SameTx}
use Rattle.run_threads.proofs.waits.await_room.Given as goal

abbrev pub invariant-loop : goal.invariant-loop
invariant-loop g l =
    (l.ends.from_splitter ≡ l.fn.ends.from_splitter)
    × SameTx l.fn.ends.to_merge l.ends.to_merge
    × (sent l.ends.to_merge ≡ sent l.fn.ends.to_merge)
    × (length (posted l.ends.to_merge) ≤ length (posted l.fn.ends.to_merge))
