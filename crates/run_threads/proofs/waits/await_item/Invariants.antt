use Rattle.std.proofs.Common.{◌≡◌}
use Rattle.pipe_rings.specs.Rings.{received, SameRx}
use Rattle.run_threads.proofs.waits.await_item.Given as goal

abbrev pub invariant-loop : goal.invariant-loop
invariant-loop g l =
    SameRx l.fn.rx l.rx
    × (received l.rx ≡ received l.fn.rx)
