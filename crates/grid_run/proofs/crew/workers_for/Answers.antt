use Rattle.std.proofs.Common.{sym, subst}
use Rattle.grid_run.specs.Rows.{IsSound}
use Rattle.grid_run.proofs.Each.{made_more}
use Rattle.grid_run.proofs.crew.workers_for.Goals as goal

pub new-requires : goal.new-requires
new-requires c =
    subst IsSound (sym c.plan-item.is)
    (c.requires c.loop-plan.plan-index c.plan-item.result c.loop-plan-test.true)

pub loop-plan-preserved : goal.loop-plan-preserved
loop-plan-preserved c =
    made_more c.in_ok-one.one c.loop-plan.invariant c.in_ok-add_to.ensures.joined
    c.loop-plan-test.true c.plan-item.is c.in_ok-one.ensures.task c.in_ok-one.ensures.taken
