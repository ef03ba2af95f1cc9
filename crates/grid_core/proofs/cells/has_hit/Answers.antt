use Rattle.std.proofs.Common.{sym, ap, ◌∙◌, ltb}
use Rattle.grid_core.specs.Standing.{rules_of_rows}
use Rattle.grid_core.proofs.Served.{hit-is}
use Rattle.grid_core.proofs.StackRules.{stacked}
use Rattle.grid_core.proofs.cells.has_hit.Goals as goal

pub returns-clause-hits : goal.returns-clause-hits
returns-clause-hits c = λ near h x moved.
    let s = c.args.stack.now in
    let shape = c.args.shape in
    hit-is (rules_of_rows s) (stacked s) shape c.requires h x
    (ap (λ d. ltb d shape.ways) (sym (c.position.ensures ∙ moved.found)) ∙ near)
