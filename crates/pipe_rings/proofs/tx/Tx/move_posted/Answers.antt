use Rattle.std.proofs.Common.{rules, ◌+◌, ◌<◌, length, ap, arith, length-append, length-drop}
use Rattle.pipe_rings.proofs.Outboxes.{moved-on}
use Rattle.rtrb.specs.Ring as ring
use Rattle.pipe_rings.specs.Rings.{sent, posted, HasRoom}
use Rattle.pipe_rings.proofs.tx.Tx.move_posted.Goals as goal

pub returns-else-is_empty-clause-sent : goal.returns-else-is_empty-clause-sent
unfolding sent
returns-else-is_empty-clause-sent g c =
    moved-on (ring.sent c.args.self.now.end) c.push_partial_slice.result.0.now
    c.push_partial_slice.result.1.now c.args.self.now.outbox.items c.deref.result.now
    c.args.self.now.first _ c.push_partial_slice.ensures.sent c.deref.ensures.value
    c.push_partial_slice.ensures.parts

pub returns-else-is_empty-clause-emptied : goal.returns-else-is_empty-clause-emptied
unfolding posted HasRoom
returns-else-is_empty-clause-emptied g c = λ e.
    let first = c.args.self.now.first in
    let items = c.args.self.now.outbox.items in
    let moved = c.push_partial_slice.result.0.now in
    let left = c.push_partial_slice.result.1.now in
    let some : 0 < length left = search rules in
    absurd (omega (
      arith,
      e,
      length-drop (first + length moved) items,
      ap length c.push_partial_slice.ensures.parts,
      length-append moved left,
      some,
    ))
