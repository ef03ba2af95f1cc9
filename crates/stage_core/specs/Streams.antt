-- The stream of each ring: the messages that it carries for an event list.
use Rattle.std.specs.Prelude.{ℕ, ◌+◌, Bool, true, false, List, [], ◌∷◌, ◌++◌, length, map}
use Rattle.std.specs.List.{flat_map}
use Rattle.din_trace.specs.declared.record.DinRecord.{DinRecord}
use Rattle.din_trace.specs.declared.record.Label.{Label}
use Rattle.din_trace.specs.declared.record.Label.TheVariants as label
use Rattle.cache_core.specs.History.{Event, access, flush, History}
use Rattle.stage_core.specs.Places.{flat_map_with_past}
use Rattle.stage_core.specs.Events.{access_of, asked, newest_first, history}
use Rattle.stage_core.specs.SecondLevel.{Parts}
use Rattle.stage_core.specs.declared.message.Side.{Side}
use Rattle.stage_core.specs.declared.message.What.{What}
use Rattle.stage_core.specs.declared.message.Turn.{Turn}
use Rattle.stage_core.specs.declared.message.Turn.TheVariants as turn
use Rattle.stage_core.specs.declared.message.ToStage.{ToStage}
use Rattle.stage_core.specs.declared.message.ToStage.TheVariants as to_stage
use Rattle.stage_core.specs.declared.message.FromStage.{FromStage}
use Rattle.stage_core.specs.declared.message.FromStage.TheVariants as from_stage

-- the turn of an event: which sides it concerns
abbrev pub turn_of : Label → Turn
turn_of label.Instr = turn.I
turn_of label.Flush = turn.Both
turn_of label.Read = turn.D
turn_of label.Write = turn.D
turn_of label.Misc = turn.D

-- the stream of the order ring
abbrev pub order : List DinRecord → List Turn
order events = map (λ e. turn_of e.label) events ++ turn.Finish ∷ []

-- the message with a request to a stage's cache
abbrev pub message : ℕ → Event → ToStage
message place (access x) = to_stage.Ref place x.class x.addr
message place flush = to_stage.Flush place

-- the messages to a side for the event e, which comes after the events `before`
abbrev pub messages_to : Side → List DinRecord → DinRecord → List ToStage
messages_to side before e = map (message (length before + 1)) (asked side e)

-- the stream of the ring to a stage
abbrev pub to_side : Side → List DinRecord → List ToStage
to_side side events = flat_map_with_past (messages_to side) events ++ to_stage.Finish ∷ []

-- the messages for parts of an event at this place, numbered from n
abbrev pub numbered : ℕ → ℕ → List What → List FromStage
numbered place n [] = []
numbered place n (w ∷ ws) = from_stage.Part place n w ∷ numbered place (n + 1) ws

-- the answer of a stage for an event: its parts, and then Done with their number
abbrev pub answer : ℕ → List What → List FromStage
answer place ws = numbered place 1 ws ++ from_stage.Done place (length ws) ∷ []

-- the answer of a side for the event e, which comes after the events `before`
abbrev pub answered : Parts → Side → List DinRecord → DinRecord → List FromStage
answered parts side before e =
    flat_map (λ event. answer (length before + 1) (parts side (history side before) event))
    (asked side e)

-- the stream of the ring from a stage
abbrev pub from_side : Parts → Side → List DinRecord → List FromStage
from_side parts side events = flat_map_with_past (answered parts side) events ++ from_stage.Finish
    ∷ []

-- the request to the cache in a message
abbrev pub asked_in : ToStage → List Event
asked_in (to_stage.Ref place c a) = access_of c a ∷ []
asked_in (to_stage.Flush place) = flush ∷ []
asked_in to_stage.Finish = []

-- is it the last message to a stage?
abbrev pub is_finish : ToStage → Bool
is_finish (to_stage.Ref place c a) = false
is_finish (to_stage.Flush place) = false
is_finish to_stage.Finish = true

-- the history of a stage's cache after these messages
abbrev pub taken_in : List ToStage → History
taken_in messages = newest_first (flat_map asked_in messages)

-- the answer of a stage to a message, which it receives after the messages `before`
abbrev pub reply : Parts → Side → List ToStage → ToStage → List FromStage
reply parts side before (to_stage.Ref place c a) =
    answer place (parts side (taken_in before) (access_of c a))
reply parts side before (to_stage.Flush place) = answer place (parts side (taken_in before) flush)
reply parts side before to_stage.Finish = from_stage.Finish ∷ []

-- the answers of a stage to a whole list of messages
abbrev pub replies : Parts → Side → List ToStage → List FromStage
replies parts side messages = flat_map_with_past (reply parts side) messages
