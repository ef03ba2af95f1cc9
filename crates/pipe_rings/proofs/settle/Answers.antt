use Rattle.std.proofs.Common.{◌≤◌, length, drop, arith, ap}
use Rattle.rtrb.specs.Ring as ring
use Rattle.pipe_rings.specs.Rings.{sent, received, posted}
use Rattle.pipe_rings.proofs.settle.Goals as goal
use Rattle.pipe_rings.proofs.Batches.{behind}

pub returns-clause-left : goal.returns-clause-left
unfolding sent received posted
returns-clause-left g c =
    let now = c.slots_beside.new.self in
    let within : c.args.rx.now.left ≤ length (ring.received now) = (
    let same = ap length c.slots_beside.ensures.looked.1 in
    let b = c.args.rx.now.bounds.2 in omega arith
    ) in
    behind (ring.received now) (ring.known_items now)
    (drop c.args.tx.now.first c.args.tx.now.outbox.items) _ c.args.rx.now.left
    c.slots_beside.result _ within c.slots_beside.ensures.value c.posted.ensures
    c.slots_beside.ensures.fifo
