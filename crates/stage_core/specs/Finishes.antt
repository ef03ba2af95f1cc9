-- The last message of each ring.
use Rattle.std.specs.Prelude.{◌≡◌, Bool, true, false, List, [], ◌∷◌, ◌++◌}
use Rattle.std.specs.List.{list_any}
use Rattle.din_trace.specs.declared.record.DinRecord.{DinRecord}
use Rattle.stage_core.specs.SecondLevel.{Parts}
use Rattle.stage_core.specs.Streams.{order, to_side, from_side, is_finish}
use Rattle.stage_core.specs.declared.message.Side.{Side}
use Rattle.stage_core.specs.declared.message.Turn.{Turn}
use Rattle.stage_core.specs.declared.message.Turn.TheVariants as turn
use Rattle.stage_core.specs.declared.message.ToStage.TheVariants as to_stage
use Rattle.stage_core.specs.declared.message.FromStage.{FromStage}
use Rattle.stage_core.specs.declared.message.FromStage.TheVariants as from_stage

-- is it the last turn?
abbrev pub is_last_turn : Turn → Bool
is_last_turn turn.I = false
is_last_turn turn.D = false
is_last_turn turn.Both = false
is_last_turn turn.Finish = true

-- is it the last message of a stage?
abbrev pub is_last_answer : FromStage → Bool
is_last_answer (from_stage.Part place part what) = false
is_last_answer (from_stage.Done place parts) = false
is_last_answer from_stage.Finish = true

-- these messages end with this message, and no message before it is a last one
pub record EndOnce {M : Type 0} (is_end : M → Bool) (finish : M) (messages : List M) : Type 0 where
  pub before : List M
  pub last : messages ≡ before ++ finish ∷ []
  pub only : list_any is_end before ≡ false

-- the stream of each ring has exactly one `Finish`, as its last message
abbrev pub FinishEndsEachStream : Type 0
FinishEndsEachStream = (parts : Parts) (s : Side) (es : List DinRecord) →
    EndOnce is_last_turn turn.Finish (order es)
    × EndOnce is_finish to_stage.Finish (to_side s es)
    × EndOnce is_last_answer from_stage.Finish (from_side parts s es)
