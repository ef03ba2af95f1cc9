use Rattle.grid_run.proofs.plan.plan_in_order.Goals as goal

pub loop-row-init : goal.loop-row-init
loop-row-init c = record { sound = λ all. all }

pub loop-row-preserved : goal.loop-row-preserved
loop-row-preserved c =
    record { sound = λ all. c.in_ok-plan_row.ensures (c.loop-row.invariant.sound all) }

pub returns : goal.returns
returns c = c.loop-row.invariant.sound
