use Rattle.std.proofs.Common.{◌≡◌, ◌++◌, ℕ, List, length, map}
use Rattle.std.specs.List.{All}
use Rattle.grid_run.specs.Backs.{NothingWaits, WereAsked, back_task, no_requests, task_of_shelf}
use Rattle.grid_run.specs.Banks.{each_of}
use Rattle.grid_run.proofs.bank.backs_for.Given as goal

-- there are second levels for the shelves that were passed
abbrev pub invariant-backs : goal.invariant-backs
invariant-backs l = record {
  tasks : each_of (map back_task l.backs.items) ++ map task_of_shelf l.rest
      ≡ map task_of_shelf l.shelves;
  asked : (blocks : List ℕ) → All (WereAsked blocks no_requests) l.backs.items;
  settled : All NothingWaits l.backs.items;
}

-- each turn leaves fewer shelves
abbrev pub decreases-backs : goal.decreases-backs
decreases-backs l = length l.rest
