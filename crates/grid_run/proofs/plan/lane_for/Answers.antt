use Rattle.std.proofs.Common.{◌≡◌}
use Rattle.std.proofs.lemmas.Result.{on_ok_weaker}
use Rattle.grid_run.specs.Rows.{IsSound}
use Rattle.grid_run.specs.declared.plan.LanePlan.{LanePlan}
use Rattle.grid_run.proofs.Growing.{all-push, joined-at}
use Rattle.grid_run.proofs.RowPlaces.{lanes-joined}
use Rattle.grid_run.proofs.plan.lane_for.Goals as goal

pub returns-clause-lane : goal.returns-clause-lane
returns-clause-lane c =
    joined-at (λ (lane : LanePlan). lane.selection ≡ c.args.selection) _ _ _ c.add_to.result
    c.add_to.ensures.last c.add_to.ensures.joined c.empty_lane.ensures.selection

pub returns-clause-keeps : goal.returns-clause-keeps
returns-clause-keeps c =
    on_ok_weaker c.add_to.result
    (lanes-joined c.args.lanes.now.items c.add_to.new.list.items c.empty_lane.result)
    c.add_to.ensures.joined

pub returns-clause-sound : goal.returns-clause-sound
returns-clause-sound c =
    on_ok_weaker c.add_to.result
    (λ is all. all-push IsSound _ _ _ is all c.empty_lane.ensures.sound) c.add_to.ensures.joined
