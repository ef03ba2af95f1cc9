use Rattle.std.proofs.Common.{◌≡◌, ◌*◌, ◌-◌, false, List, length, Some}
use Rattle.stage_core.specs.Config.{ring_of}
use Rattle.stage_core.specs.Network.{Machine, steps_made, messages, run}
use Rattle.stage_core.specs.Network.Choices.{IsNamedFrom}
use Rattle.stage_core.specs.Network.Cores.{parts_for, IsSameRun}
use Rattle.stage_core.proofs.network.schedule.run.Given as goal

abbrev pub invariant-run : goal.invariant-run
invariant-run l =
    let start = l.fn.core in
    record {
      works : l.core.failed ≡ false;
      same : IsSameRun start l.core;
      made : l.made ≡ steps_made l.core.network;
      schedule : (ms : List Machine)
          × (run (parts_for start.config) (ring_of start.config) ms start.network
          ≡ Some l.core.network)
          × IsNamedFrom (parts_for start.config) (ring_of start.config) l.choices 0 ms start.network
          × (l.made ≡ length ms);
    }

abbrev pub decreases-run : goal.decreases-run
decreases-run l = 2 * messages (parts_for l.fn.core.config) l.fn.core.events - l.made
