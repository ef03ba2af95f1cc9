use Rattle.std.proofs.Common.{◌&&◌, not, sym, ap, ◌∙◌}
use Rattle.cache_core.specs.History.{is_write}
use Rattle.cache_core.specs.Parts.{SendsNothing, outcome_of}
use Rattle.grid_core.specs.Cells.{shape_rules}
use Rattle.grid_core.specs.StackedCells.{stacked_rules}
use Rattle.grid_core.proofs.Silence.{at-rules, hits-send-nothing}
use Rattle.grid_core.proofs.stacked.Stacked.again.Goals as goal

pub returns-clause-silent : goal.returns-clause-silent
unfolding stacked_rules
returns-clause-silent c = λ e h x answered.
    let new = c.repeat.new.self in
    let old = c.args.self.now in
    let kept = c.repeat.ensures in
    at-rules shape_rules (λ r. SendsNothing (outcome_of r h x)) new.shapes.items
    (hits-send-nothing h x new.wback c.sends_on.result new.shapes.items
    (answered.again kept.again) new.one_policy
    (c.sends_on.ensures
    ∙ ap (λ w. w && not old.wback) (c.writes-write.ensures ∙ sym kept.write ∙ answered.write)
    ∙ ap (λ p. is_write x && not p) (sym kept.policy)) c.if-sends_on.false)
