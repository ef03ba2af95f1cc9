use Rattle.std.proofs.Common.{◌<◌}
use Rattle.std.proofs.Common.{length}
use Rattle.std.proofs.Common.{sym, ◌∙◌, arith}
use Rattle.grid_core.proofs.Fronts.{shifted-last, last-is, copied-first}
use Rattle.grid_core.proofs.front.bring_front.Goals as goal

pub returns : goal.returns
returns c = λ p is.
    let xs = c.args.row.now in
    let n = length xs in
    let some : 0 < n = omega (arith, c.if-row-eq0.false) in
    let last = c.last_moved-last.result in
    let at = last-is p xs c.args.position is last some c.last_moved-last.ensures in
    copied-first xs c.copy_within.new.self last c.args.front at.0 c.copy_within.ensures.after
    ∙ sym (shifted-last p c.args.front xs last at.0 at.1 at.2)
