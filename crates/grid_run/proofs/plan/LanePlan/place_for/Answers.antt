use Rattle.std.proofs.Common.{map, refl, subst}
use Rattle.cache_core.specs.History.{Rules}
use Rattle.stage_core.specs.Config.{geometry_in, policy_in}
use Rattle.stage_core.specs.declared.config.CacheName.TheVariants as cache_name
use Rattle.grid_run.specs.Backs.{task_of_shelf}
use Rattle.grid_run.specs.Lanes.{task_of_plan}
use Rattle.grid_run.specs.Plans.{IsSeatBehind}
use Rattle.grid_run.specs.Seats.{IsSeatOf, rules_on}
use Rattle.grid_run.proofs.BackShelves.{placed-grows}
use Rattle.grid_run.proofs.RowPlaces.{places-grow}
use Rattle.grid_run.proofs.Shelves.{same-from, seat-there}
use Rattle.grid_run.proofs.plan.LanePlan.place_for.Goals as goal

pub returns-clause-place : goal.returns-clause-place
unfolding task_of_plan
returns-clause-place c =
    let i = same-from _ (geometry_in c.args.config.now cache_name.I) _
    (policy_in c.args.config.now cache_name.I) c.i.ensures.geometry c.i.ensures.policy in
    let d = same-from _ (geometry_in c.args.config.now cache_name.D) _
    (policy_in c.args.config.now cache_name.D) c.d.ensures.geometry c.d.ensures.policy in
    let u = same-from _ (geometry_in c.args.config.now cache_name.U) _
    (policy_in c.args.config.now cache_name.U) c.u.ensures.geometry c.u.ensures.policy in
    let behind =
    subst (λ (r : Rules). IsSeatBehind c.in_ok-i.i c.in_ok-d.d r
    (map task_of_shelf c.seat_behind.new.backs.items) c.in_ok-u.u) u c.in_ok-u.ensures.seat in
    record {
      selection = refl;
      i = subst (λ (r : Rules). IsSeatOf (map rules_on c.seat_for.new.shelves.items) r
          c.in_ok-i.i) i c.in_ok-i.ensures.seat;
      d = subst (λ (r : Rules). IsSeatOf (map rules_on c.seat_for-2.new.shelves.items) r
          c.in_ok-d.d) d c.in_ok-d.ensures.seat;
      family = behind.family;
      back = λ other. let b = behind.back other in
          record { on_i = b.on_i; on_d = b.on_d; cell = b.cell };
    }

pub returns-clause-keeps : goal.returns-clause-keeps
unfolding task_of_plan
returns-clause-keeps c =
    places-grow (task_of_plan c.args.self.now) _ refl c.in_ok-i.ensures.keeps
    c.in_ok-d.ensures.keeps c.in_ok-u.ensures.keeps

pub returns-clause-sound : goal.returns-clause-sound
unfolding task_of_plan
returns-clause-sound c = λ own.
    let old = c.args.self.now in
    let i = map rules_on old.i.items in
    let j = map rules_on c.seat_for.new.shelves.items in
    let d = map rules_on old.d.items in
    let e = map rules_on c.seat_for-2.new.shelves.items in
    record {
      bounded = own.bounded;
      placed = c.in_ok-u.ensures.placed j e
          (seat-there c.in_ok-i.ensures.seat)
          (seat-there c.in_ok-d.ensures.seat)
          (placed-grows i j d e c.in_ok-i.ensures.keeps c.in_ok-d.ensures.keeps
          (map task_of_shelf old.backs.items) own.placed);
    }
