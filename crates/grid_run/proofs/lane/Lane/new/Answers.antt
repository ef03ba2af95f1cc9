use Rattle.std.proofs.Common.{List, map, ap, sym, subst, ◌∙◌}
use Rattle.std.specs.List.{All}
use Rattle.grid_run.specs.Backs.{IsPlacedIn, seats_of_shared, task_of_shelf}
use Rattle.grid_run.specs.Banks.{each_of, tasks_of_banks}
use Rattle.grid_run.specs.FirstLevels.{FirstTask, first_of_plan, first_task}
use Rattle.grid_run.specs.Lanes.{lane_task, task_of_plan}
use Rattle.grid_run.specs.Seats.{rules_on}
use Rattle.grid_run.specs.declared.bank.Bank.{Bank}
use Rattle.grid_run.proofs.Given.{seated, taken-all}
use Rattle.grid_run.proofs.Placed.{same-lane}
use Rattle.grid_run.proofs.StayNumbered.{none-numbered}
use Rattle.grid_run.proofs.lane.Lane.new.Goals as goal

pub new-requires : goal.new-requires
unfolding task_of_plan first_of_plan
new-requires c =
    let plan = c.args.plan.now in
    let tasks = c.in_ok-banks.ensures.tasks ∙ ap (map task_of_shelf) c.deref.ensures.value in
    let placed = IsPlacedIn (map rules_on plan.i.items) (map rules_on plan.d.items) in
    record {
      bounded = c.requires.bounded;
      seated = seated _ _ (tasks_of_banks c.deref-2.result.now)
          (subst (All placed)
          (sym (ap (λ (bs : List Bank). each_of (tasks_of_banks bs)) c.deref-2.ensures.value
          ∙ tasks)) c.requires.placed);
    }

pub returns : goal.returns
unfolding lane_task task_of_plan first_task first_of_plan
returns c =
    let f = c.in_ok-first.first in
    let banks = c.in_ok-banks.banks.items in
    let task = c.in_ok-first.ensures.task in
    let are = c.deref-2.ensures.value in
    let tasks = c.in_ok-banks.ensures.tasks ∙ ap (map task_of_shelf) c.deref.ensures.value in
    record {
      taken = taken-all (record {
        given = c.in_ok-first.ensures.given;
        numbered = none-numbered _ f.queues.items c.in_ok-first.ensures.none;
        asked = c.in_ok-banks.ensures.asked _;
        matched = ap (λ (t : FirstTask). t.seats) task
            ∙ ap (λ (bs : List Bank). map seats_of_shared (tasks_of_banks bs)) are;
      });
      task = same-lane (ap (λ (t : FirstTask). t.selection) task)
          (ap (λ (t : FirstTask). t.i) task) (ap (λ (t : FirstTask). t.d) task) tasks;
    }
