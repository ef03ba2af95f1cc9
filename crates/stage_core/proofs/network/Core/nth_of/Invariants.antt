use Rattle.std.proofs.Common.{◌≡◌, ◌<◌, length, filter, drop, slice_get}
use Rattle.stage_core.specs.Network.Cores.{can_in}
use Rattle.stage_core.proofs.network.Core.nth_of.Given as goal

abbrev pub invariant-loop-machine : goal.invariant-loop-machine
invariant-loop-machine l =
    record {
      same : slice_get (filter (can_in l.self) (drop l.machine-index l.machines)) l.left
          ≡ slice_get (filter (can_in l.self) l.machines) l.nth;
      below : l.left < length (filter (can_in l.self) (drop l.machine-index l.machines));
    }
