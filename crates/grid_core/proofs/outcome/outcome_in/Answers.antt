use Rattle.std.proofs.Common.{not, ◌&&◌, ltb, ap, ◌∙◌}
use Rattle.cache_core.specs.History.{is_write}
use Rattle.grid_core.specs.Standing.{rules_of_rows}
use Rattle.grid_core.proofs.Served.{outcome-is}
use Rattle.grid_core.proofs.StackRules.{stacked}
use Rattle.grid_core.proofs.outcome.outcome_in.Goals as goal

pub returns-clause-is : goal.returns-clause-is
returns-clause-is c = λ h x moved write prior.
    let s = c.args.stack.now in
    outcome-is (rules_of_rows s) (stacked s) c.args.shape c.requires h x c.args.prior prior
    c.position.result (c.position.ensures ∙ moved.found)
    c.kind_in.result c.back_in.result c.sends_on.result
    c.kind_in.ensures
    (c.back_in.ensures h x moved (ap (λ d. ltb d c.args.shape.ways) c.position.ensures))
    (c.sends_on.ensures ∙ ap (λ t. t && not c.wback.result) write
    ∙ ap (λ t. is_write x && not t) c.wback.ensures)
