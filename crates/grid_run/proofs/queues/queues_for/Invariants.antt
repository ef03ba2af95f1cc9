use Rattle.std.proofs.Common.{◌≡◌, map, take}
use Rattle.std.specs.List.{All}
use Rattle.grid_run.specs.Backs.{HasNone, queue_seats, seats_of_shared}
use Rattle.grid_run.specs.Banks.{tasks_of_banks}
use Rattle.grid_run.proofs.queues.queues_for.Given as goal

-- there is an empty queue in front of each of the second levels of the banks that were passed
abbrev pub invariant-loop-bank : goal.invariant-loop-bank
invariant-loop-bank l = record {
  seats : map queue_seats l.queues.items
      ≡ map seats_of_shared (tasks_of_banks (take l.bank-index l.banks));
  none : All HasNone l.queues.items;
}
