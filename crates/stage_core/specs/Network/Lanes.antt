-- A lane of the code, seen as a lane of the network.
use Rattle.std.specs.Prelude.{◌≡◌, ℕ, ◌<◌, ◌^◌, List, Option, Some, IsSome}
use Rattle.cache_core.specs.History.{Rules}
use Rattle.cache_core.specs.Standing.{rules_of, served_of}
use Rattle.stage_core.specs.SecondLevel.{parts_of}
use Rattle.stage_core.specs.Standing.{StageStandsFor, cache_of, side_of, outbox_of}
use Rattle.stage_core.specs.Network.{Lane, stage}
use Rattle.stage_core.specs.declared.message.Side.{Side}
use Rattle.stage_core.specs.declared.message.ToStage.{ToStage}
use Rattle.stage_core.specs.declared.l1_stage.L1Stage.{L1Stage}
use Rattle.stage_core.specs.declared.network.lane.Lane as code

-- the two rings of a lane and the outbox of its stage
abbrev pub lane_of : code.Lane → Lane
lane_of l = record { to = l.to; outbox = outbox_of l.stage; from = l.from }

-- the lane after the next step of its stage, if that step is possible
abbrev pub stage_next : ℕ → code.Lane → Option Lane
stage_next capacity l =
    stage (parts_of (rules_of (cache_of l.stage))) capacity (side_of l.stage)
    (outbox_of l.stage) (lane_of l)

-- the stage of a lane can make its next step: it has received what was popped from its ring, and
-- its cache can serve one more request
pub record MayStep (capacity : ℕ) (l : code.Lane) : Type 0 where
  pub stands : StageStandsFor l.stage l.to.popped
  pub possible : IsSome (stage_next capacity l)
  pub room : served_of (cache_of l.stage) < 2 ^ 44

-- the stage of a lane has made its next step, and has received what was popped from its ring
pub record HasStepped (capacity : ℕ) (was now : code.Lane) : Type 0 where
  pub step : stage_next capacity was ≡ Some (lane_of now)
  pub stands : StageStandsFor now.stage now.to.popped
  pub side : side_of now.stage ≡ side_of was.stage
  pub rules : rules_of (cache_of now.stage) ≡ rules_of (cache_of was.stage)

-- a stage of this side, whose cache has these rules, has received these messages
pub record TookIn (rules : Rules) (s : Side) (stage : L1Stage) (ms : List ToStage) : Type 0 where
  pub same_rules : rules_of (cache_of stage) ≡ rules
  pub same_side : side_of stage ≡ s
  pub stands : StageStandsFor stage ms
