use Rattle.std.proofs.Common.{◌≡◌, map, take}
use Rattle.grid_run.specs.Backs.{seats_of_task, task_of_shelf}
use Rattle.grid_run.specs.declared.plan.BackShelf.{BackShelf}
use Rattle.grid_run.proofs.backs.seats_for.Given as goal

-- there are the seats in front of the shelves that were passed
abbrev pub invariant-loop-shelf : goal.invariant-loop-shelf
invariant-loop-shelf l =
    l.made.items ≡ map (λ (shelf : BackShelf). seats_of_task (task_of_shelf shelf))
    (take l.shelf-index l.shelves)
