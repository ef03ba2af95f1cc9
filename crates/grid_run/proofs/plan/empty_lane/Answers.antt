use Rattle.std.proofs.Common.{List, map, sym, subst}
use Rattle.std.specs.List.{All}
use Rattle.std.proofs.lemmas.List.Elements.{All-nil}
use Rattle.grid_run.specs.Backs.{IsPlacedIn, task_of_shelf}
use Rattle.grid_run.specs.Lanes.{task_of_plan}
use Rattle.grid_run.specs.Seats.{rules_on}
use Rattle.grid_run.specs.declared.plan.BackShelf.{BackShelf}
use Rattle.grid_run.proofs.plan.empty_lane.Goals as goal

pub returns-clause-sound : goal.returns-clause-sound
unfolding task_of_plan
returns-clause-sound c =
    let i = map rules_on c.new.result.items in
    let d = map rules_on c.new-2.result.items in
    record {
      bounded = c.requires;
      placed = subst (λ (l : List BackShelf). All (IsPlacedIn i d) (map task_of_shelf l))
          (sym c.new-3.ensures.items) (All-nil (IsPlacedIn i d));
    }
