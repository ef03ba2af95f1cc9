use Rattle.std.proofs.Common.{◌≡◌, ◌≤◌, length}
use Rattle.pipe_rings.specs.Rings.{sent, posted, HasRoom, SameTx}
use Rattle.pipe_rings.proofs.tx.Tx.send.Given as goal

abbrev pub invariant-loop : goal.invariant-loop
invariant-loop g l =
    SameTx l.fn.self l.self
    × (sent l.self ≡ sent l.fn.self)
    × (length (posted l.self) ≤ length (posted l.fn.self))
    × (HasRoom l.fn.self → HasRoom l.self)
