use Rattle.std.proofs.Common.{◌≡◌, ◌++◌, ℕ, List, length, map}
use Rattle.std.specs.List.{All}
use Rattle.grid_run.specs.Backs.{no_requests, task_of_shelf}
use Rattle.grid_run.specs.Banks.{WasAsked, each_of, tasks_of_banks}
use Rattle.grid_run.proofs.banks.banks_for.Given as goal

-- there are banks for the shelves that were passed
abbrev pub invariant-banks : goal.invariant-banks
invariant-banks l = record {
  tasks : each_of (tasks_of_banks l.banks.items) ++ map task_of_shelf l.rest
      ≡ map task_of_shelf l.shelves;
  asked : (blocks : List ℕ) → All (WasAsked blocks no_requests) l.banks.items;
}

-- each turn leaves fewer shelves
abbrev pub decreases-banks : goal.decreases-banks
decreases-banks l = length l.rest
