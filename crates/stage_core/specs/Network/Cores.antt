-- A core, seen as a state of the network together with what it simulates.
use Rattle.std.specs.Prelude.{◌≡◌, ℕ, ◌<◌, ◌≤◌, ◌*◌, ◌^◌, Bool, false, List, [], drop, length}
use Rattle.std.specs.Prelude.{Option, Some, slice_get, if◌then◌else◌}
use Rattle.cache_core.specs.Standing.{rules_of}
use Rattle.din_trace.specs.declared.record.DinRecord.{DinRecord}
use Rattle.stage_core.specs.SecondLevel.{Parts, Hierarchy, parts_in}
use Rattle.stage_core.specs.Merging.{merged}
use Rattle.stage_core.specs.Config.{hierarchy_of, ring_of}
use Rattle.stage_core.specs.Standing.{L2StandsFor, l2_cache}
use Rattle.stage_core.specs.Network.{Network, Machine, Consistent, IsFinished, next, can, start}
use Rattle.stage_core.specs.Network.{enabled}
use Rattle.stage_core.specs.Network.Lanes.{lane_of, TookIn}
use Rattle.stage_core.specs.declared.config.Config.{Config}
use Rattle.stage_core.specs.declared.message.Side.TheVariants as side
use Rattle.stage_core.specs.declared.message.What.{What}
use Rattle.stage_core.specs.declared.message.ToStage.{ToStage}
use Rattle.stage_core.specs.declared.l1_stage.L1Stage.{L1Stage}
use Rattle.stage_core.specs.declared.l2_stage.L2Stage.{L2Stage}
use Rattle.stage_core.specs.declared.network.Core.TheInside.{Inside}

-- the configuration, the event list, the state of the network, and whether an allocation failed
pub record CoreState : Type 0 where
  pub config : Config
  pub events : List DinRecord
  pub network : Network
  pub failed : Bool

-- a core at its start
abbrev pub started : Config → List DinRecord → CoreState
started config events =
    record { config = config; events = events; network = start events; failed = false }

-- what the first level of this configuration sends
abbrev pub parts_for : Config → Parts
parts_for config = parts_in (hierarchy_of config)

-- the network after the next step of a machine, if that step is possible
abbrev pub next_in : CoreState → Machine → Option Network
next_in c m = next (parts_for c.config) (ring_of c.config) m c.network

-- can this machine step?
abbrev pub can_in : CoreState → Machine → Bool
can_in c = can (parts_for c.config) (ring_of c.config) c.network

-- the machines that can step, in their order; none after a failed allocation
abbrev pub enabled_in : CoreState → List Machine
enabled_in c = if c.failed then [] else enabled (parts_for c.config) (ring_of c.config) c.network

-- the state is one that the definitions allow
abbrev pub IsConsistent : CoreState → Type 0
IsConsistent c = Consistent (parts_for c.config) c.events c.network

-- this machine has made its next step
pub record MakesStep (m : Machine) (old new : CoreState) : Type 0 where
  pub step : next_in old m ≡ Some new.network
  pub works : new.failed ≡ false

-- the configuration and the event list are as before
pub record IsSameRun (old new : CoreState) : Type 0 where
  pub config : new.config ≡ old.config
  pub events : new.events ≡ old.events

-- this is the machine number `nth` (from 0) of those that can step
abbrev pub IsChosen : ℕ → CoreState → Machine → Type 0
IsChosen nth c m = slice_get (enabled_in c) nth ≡ Some m

-- the run is over: no allocation failed, and all machines have finished
pub record IsOver (c : CoreState) : Type 0 where
  pub works : c.failed ≡ false
  pub finished : IsFinished c.network

-- the fields of a core as a state of the network; the requests given to the second level are those
-- that the merge's rule takes from the popped messages
abbrev pub network_of : Inside → Network
network_of c = record {
  still = drop c.pushed c.pushes.items;
  order = c.order;
  i = lane_of c.i;
  d = lane_of c.d;
  at = c.merge;
  given = (merged c.order.popped c.i.from.popped c.d.from.popped).taken;
}

-- a core as the contracts see it
abbrev pub core_of : Inside → CoreState
core_of c = record {
  config = c.config;
  events = c.events.items;
  network = network_of c;
  failed = c.failed;
}

-- the caches have these rules, and have served these messages and requests
pub record CachesStand (h : Hierarchy) (stage_i stage_d : L1Stage) (second : L2Stage)
    (to_i to_d : List ToStage) (given : List What) : Type 0 where
  pub i : TookIn h.i side.I stage_i to_i
  pub d : TookIn h.d side.D stage_d to_d
  pub u : L2StandsFor second given
  pub u_rules : rules_of (l2_cache second) ≡ h.u

-- the event list is at most 2 * 2 ^ 40 long, and each ring has room for at least one message
pub record IsRunnable (config : Config) (events : List DinRecord) : Type 0 where
  pub short : length events ≤ 2 * 2 ^ 40
  pub room : 0 < ring_of config

-- the invariant of a core's fields, as long as no allocation failed
pub record Sound (c : Inside) : Type 0 where
  pub consistent : Consistent (parts_for c.config) c.events.items (network_of c)
  pub caches : CachesStand (hierarchy_of c.config) c.i.stage c.d.stage c.u
      c.i.to.popped c.d.to.popped (network_of c).given
  pub pushed : c.pushed ≤ length c.pushes.items
  pub runnable : IsRunnable c.config c.events.items
