use Rattle.std.proofs.Common.{map, ap, sym, subst, ◌∙◌}
use Rattle.grid_run.specs.FirstLevels.{AreSeated, first_of_plan, first_task}
use Rattle.grid_run.specs.Numbering.{sent_to}
use Rattle.grid_run.specs.Seats.{rules_on}
use Rattle.grid_run.proofs.Placed.{same-first}
use Rattle.grid_run.proofs.first_levels.FirstLevels.new.Goals as goal

pub returns : goal.returns
unfolding first_task first_of_plan
returns c =
    let i = c.in_ok-fronts_for.ensures.rules ∙ ap (map rules_on) c.deref.ensures.value in
    let d = c.in_ok-fronts_for-2.ensures.rules ∙ ap (map rules_on) c.deref-2.ensures.value in
    let same = same-first c.new.ensures.selection i d c.in_ok-queues_for.ensures.seats in
    record {
      given = record {
        seated = subst AreSeated (sym same) c.requires.seated;
        picked = c.new.ensures.none;
        served = record {
          i = c.in_ok-fronts_for.ensures.stands _;
          d = c.in_ok-fronts_for-2.ensures.stands _;
          queues = λ k q lt. record {
            all = λ j inside. sym (ap (sent_to j) (c.in_ok-queues_for.ensures.none k q lt).none);
          };
        };
      };
      none = c.in_ok-queues_for.ensures.none;
      task = same;
    }
