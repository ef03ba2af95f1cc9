use Rattle.std.proofs.Common.{sym, ◌∙◌}
use Rattle.grid_core.specs.StackedCells.{stacked_rules}
use Rattle.grid_core.proofs.After.{written-shapes, as-many}
use Rattle.grid_core.proofs.stacked.Stacked.written.Goals as goal

pub returns-clause-lists : goal.returns-clause-lists
unfolding stacked_rules
returns-clause-lists c = λ blocks h e. c.in_ok-lists.ensures.lists h e.state.rows
    ∙ written-shapes h c.args.self.now.shapes.items

pub returns-clause-len : goal.returns-clause-len
unfolding stacked_rules
returns-clause-len c = c.in_ok-lists.ensures.len ∙ sym (as-many c.args.self.now.shapes.items)
