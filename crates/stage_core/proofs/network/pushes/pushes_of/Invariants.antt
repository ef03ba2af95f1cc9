use Rattle.std.proofs.Common.{◌≡◌, take}
use Rattle.stage_core.specs.Places.{flat_map_with_past}
use Rattle.stage_core.specs.Network.Pushes.{pushes_at}
use Rattle.stage_core.proofs.network.pushes.pushes_of.Given as goal

abbrev pub invariant-loop-event : goal.invariant-loop-event
invariant-loop-event l =
    record {
      made : l.pushes.items ≡ flat_map_with_past pushes_at (take l.event-index l.events);
      place : l.splitter ≡ l.event-index;
    }
