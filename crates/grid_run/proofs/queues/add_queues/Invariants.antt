use Rattle.std.proofs.Common.{◌≡◌, ◌++◌, map, take}
use Rattle.std.specs.List.{All}
use Rattle.grid_run.specs.Backs.{HasNone, back_seats, queue_seats}
use Rattle.grid_run.proofs.queues.add_queues.Given as goal

-- there is an empty queue in front of each of the second levels that were passed
abbrev pub invariant-loop-back : goal.invariant-loop-back
invariant-loop-back l = record {
  seats : map queue_seats l.queues.items ≡ map queue_seats l.initial.queues.items
      ++ map back_seats (take l.back-index l.backs);
  none : All HasNone l.initial.queues.items → All HasNone l.queues.items;
}
