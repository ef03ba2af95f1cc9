use Rattle.std.proofs.Common.{◌≡◌, Some, map, set, sym, subst}
use Rattle.std.proofs.lemmas.List.Elements.{All-set}
use Rattle.stage_core.specs.Config.{hierarchy_of}
use Rattle.stage_core.specs.declared.selection.Selection.{Selection}
use Rattle.grid_run.specs.Grids.{IsBoundedSetup}
use Rattle.grid_run.specs.Lanes.{task_of_plan}
use Rattle.grid_run.specs.Rows.{IsPlaceIn, IsSound, RowHasPlace}
use Rattle.grid_run.specs.declared.grid.Setup.{Setup}
use Rattle.grid_run.specs.declared.plan.LanePlan.{LanePlan}
use Rattle.grid_run.proofs.Growing.{at-found}
use Rattle.grid_run.proofs.RowPlaces.{lanes-kept, place-of}
use Rattle.grid_run.proofs.plan.place_for.Goals as goal

pub lane_for-requires : goal.lane_for-requires
lane_for-requires c = subst IsBoundedSetup c.in-Simulated.is c.requires

pub returns-clause-place : goal.returns-clause-place
returns-clause-place c =
    let xs = c.lane_for.new.lanes.items in
    let k = c.in_ok-lane.lane in
    let x = c.index_mut.result.now in
    let y = c.place_for.new.self in
    let own = c.in_ok-lane.ensures.lane in
    let h = hierarchy_of c.in-Simulated.config in
    let s = c.in-Simulated.selection in
    let p = c.in_ok-place.place in
    subst (λ (z : Setup). RowHasPlace (map task_of_plan (set xs k y)) z (Some p))
    (sym c.in-Simulated.is)
    (place-of xs k x y own.inside h s p c.in_ok-place.ensures.lane
    (subst (λ (z : Selection). IsPlaceIn (task_of_plan y) h z p)
    (at-found (λ (lane : LanePlan). lane.selection ≡ s) xs k x own c.index_mut.ensures.value)
    c.in_ok-place.ensures.place))

pub returns-clause-keeps : goal.returns-clause-keeps
returns-clause-keeps c = λ h s p has.
    lanes-kept c.lane_for.new.lanes.items c.in_ok-lane.lane c.index_mut.result.now
    c.place_for.new.self c.in_ok-lane.ensures.lane.inside c.index_mut.ensures.value
    c.in_ok-place.ensures.keeps h s p (c.in_ok-lane.ensures.keeps h s p has)

pub returns-clause-sound : goal.returns-clause-sound
returns-clause-sound c = λ all.
    let xs = c.lane_for.new.lanes.items in
    let k = c.in_ok-lane.lane in
    let x = c.index_mut.result.now in
    let y = c.place_for.new.self in
    let now = c.in_ok-lane.ensures.sound all in
    All-set IsSound xs k y
    (c.in_ok-place.ensures.sound
    (subst IsSound (sym c.index_mut.ensures.value) (now k x c.in_ok-lane.ensures.lane.inside))) now
