-- Laws over the definitions.
use Rattle.std.specs.Prelude.{◌≡◌, ℕ, ◌*◌, ◌<◌, ◌≤◌, List, length}
use Rattle.din_trace.specs.declared.record.DinRecord.{DinRecord}
use Rattle.stage_core.specs.Events.{TakesAll, events}
use Rattle.stage_core.specs.SecondLevel.{Parts, Hierarchy, parts_in, second_level_requests}
use Rattle.stage_core.specs.SecondLevel.{second_history}
use Rattle.stage_core.specs.Streams.{order, to_side, from_side, replies}
use Rattle.stage_core.specs.Merging.{merged, all_used, AtEnd}
use Rattle.stage_core.specs.Waiting.{Threads, RingsCarry, NoneGoesOn, AllEnded}
use Rattle.stage_core.specs.declared.message.Side.{Side}
use Rattle.stage_core.specs.declared.message.Side.TheVariants as side
use Rattle.stage_core.specs.declared.selection.Selection.{Selection}

-- the merge's rule, applied to the streams of an event list, takes exactly the requests of the
-- second level in the order of the trace, uses all messages, and comes to its end
abbrev pub MergeTakesTheRequests : Type 0
MergeTakesTheRequests = (parts : Parts) (es : List DinRecord) →
    merged (order es) (from_side parts side.I es) (from_side parts side.D es)
    ≡ all_used (second_level_requests parts es) AtEnd

-- the answers of a stage to its whole stream are its stream to the merge
abbrev pub StagesAnswerTheirStreams : Type 0
StagesAnswerTheirStreams = (parts : Parts) (s : Side) (es : List DinRecord) →
    replies parts s (to_side s es) ≡ from_side parts s es

-- the second level gets at most twice as many requests as there are events
abbrev pub SecondLevelSeesAtMostTwo : Type 0
SecondLevelSeesAtMostTwo = (c : Hierarchy) (es : List DinRecord) →
    length (second_history (second_level_requests (parts_in c) es)) ≤ 2 * length es

-- a selection makes at most twice as many events as there are records
abbrev pub SelectionsMakeAtMostTwo : Type 0
SelectionsMakeAtMostTwo = (s : Selection) (records : List DinRecord)
    → length (events s records) ≤ 2 * length records

-- if a selection takes all, the events of a trace are its records
abbrev pub TakingAllKeepsEachRecord : Type 0
TakingAllKeepsEachRecord = (s : Selection) → TakesAll s → (records : List DinRecord)
    → events s records ≡ records

-- threads of which each waits in vain or has ended have all ended, if each ring holds a message or
-- more
abbrev pub WaitingThreadsHaveEnded : Type 0
WaitingThreadsHaveEnded =
    (parts : Parts) (capacity : ℕ) (n : Threads) → 0 < capacity → RingsCarry n →
    NoneGoesOn parts capacity n → AllEnded parts n

-- and where all have ended, the second level was given just what it is to see
abbrev pub EndedThreadsGaveAll : Type 0
EndedThreadsGaveAll =
    (parts : Parts) (n : Threads) → RingsCarry n → AllEnded parts n →
    n.merge.given ≡ second_level_requests parts n.splitter.events
