use Rattle.std.proofs.Common.{sym, subst}
use Rattle.std.proofs.lemmas.Result.{on_ok_weaker}
use Rattle.stage_core.specs.Standing.{StageStandsFor}
use Rattle.stage_core.proofs.Stands.{same_stands}
use Rattle.stage_core.proofs.network.Kept.{pop-some}
use Rattle.stage_core.proofs.network.lane.Lane.step.Goals as goal

pub returns-in-None-clause-stands : goal.returns-in-None-clause-stands
returns-in-None-clause-stands c =
    let old = c.args.self.now in
    let sends = c.outbox_next.ensures in
    let same = same_stands old.stage c.outbox_next.new.self old.to.popped sends.cache sends.finish
    c.requires.stands in
    let popped = pop-some old.to (c.pop-message.result, c.pop-message.new.self)
    c.pop-message.ensures in
    on_ok_weaker c.on.result
    (λ longer. subst (StageStandsFor c.on.new.self) (sym popped.popped) (longer old.to.popped same))
    c.on.ensures.stands
