-- The run on one thread.
use Rattle.std.specs.Prelude.{◌≡◌, ◌⊎◌, List, [], ◌∷◌, length, Option, option_to_list}
use Rattle.std.specs.List.{flat_map}
use Rattle.din_trace.specs.declared.record.DinRecord.{DinRecord}
use Rattle.cache_core.specs.Standing.{rules_of}
use Rattle.stage_core.specs.Places.{flat_map_with_past}
use Rattle.stage_core.specs.SecondLevel.{Hierarchy, Parts, parts_of, parts_in}
use Rattle.stage_core.specs.SecondLevel.{second_level_requests}
use Rattle.stage_core.specs.Streams.{messages_to, reply}
use Rattle.stage_core.specs.Merging.{MergeState, AtOrder, wanted, after_end, after_message, what_in}
use Rattle.stage_core.specs.Standing.{StageStandsFor, L2StandsFor, IsReady, cache_of, side_of}
use Rattle.stage_core.specs.Standing.{hierarchy_by}
use Rattle.stage_core.specs.declared.message.Side.{Side}
use Rattle.stage_core.specs.declared.message.Side.TheVariants as side
use Rattle.stage_core.specs.declared.message.Want.TheVariants as want
use Rattle.stage_core.specs.declared.message.What.{What}
use Rattle.stage_core.specs.declared.message.ToStage.{ToStage}
use Rattle.stage_core.specs.declared.message.FromStage.{FromStage}
use Rattle.stage_core.specs.declared.l1_stage.L1Stage.{L1Stage}
use Rattle.stage_core.specs.declared.plain.Machines.{Machines}

-- the merge wants a message of a side
abbrev pub WantsSide : MergeState → Type 0
WantsSide at = (wanted at ≡ want.I) ⊎ (wanted at ≡ want.D)

-- the merge wants a message of a side before each of these messages
abbrev pub AreWanted : MergeState → List FromStage → Type 0
AreWanted at [] = Unit {0}
AreWanted at (m ∷ ms) = WantsSide at × AreWanted (after_message at m) ms

-- the state of the merge after these messages
abbrev pub state_after : MergeState → List FromStage → MergeState
state_after at [] = at
state_after at (m ∷ ms) = state_after (after_message at m) ms

-- the merge wants a message of a side before the answer to each of these messages
abbrev pub WantsAnswers : MergeState → List ToStage → Type 0
WantsAnswers at [] = Unit {0}
WantsAnswers at (m ∷ ms) = WantsSide at × WantsAnswers (after_end at) ms

-- the state of the merge after the answers to these messages
abbrev pub after_answers : MergeState → List ToStage → MergeState
after_answers at [] = at
after_answers at (m ∷ ms) = after_answers (after_end at) ms

-- the requests that a stage sends up for these messages, after it has received those before
abbrev pub brought : Parts → Side → List ToStage → List ToStage → List What
brought parts s before ms = flat_map (λ m. flat_map what_in (reply parts s before m)) ms

-- the requests that this stage sends up for one message, or for none
abbrev pub brought_from : L1Stage → List ToStage → Option ToStage → List What
brought_from stage before message =
    brought (parts_of (rules_of (cache_of stage))) (side_of stage) before (option_to_list message)

-- a stage has received all messages of its side for these events, and has sent all answers
pub record StageRan (s : Side) (stage : L1Stage) (es : List DinRecord) : Type 0 where
  pub side : side_of stage ≡ s
  pub stands : StageStandsFor stage (flat_map_with_past (messages_to s) es)
  pub ready : IsReady stage

-- the rules of the machines' caches
abbrev pub hierarchy_in : Machines → Hierarchy
hierarchy_in m = hierarchy_by m.i m.d m.u

-- the machines have simulated these events
pub record Ran (m : Machines) (es : List DinRecord) : Type 0 where
  pub place : m.splitter ≡ length es
  pub i : StageRan side.I m.i es
  pub d : StageRan side.D m.d es
  pub merge : m.merge ≡ AtOrder
  pub u : L2StandsFor m.u (second_level_requests (parts_in (hierarchy_in m)) es)
