use Rattle.std.proofs.Common.{◌≡◌}
use Rattle.pipe_rings.specs.Rings.{received, SameRx}
use Rattle.pipe_rings.proofs.rx.Rx.wait_and_recv.Given as goal

abbrev pub invariant-loop : goal.invariant-loop
invariant-loop g l =
    SameRx l.fn.self l.self × (received l.self ≡ received l.fn.self)
