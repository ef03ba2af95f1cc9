-- When threads may wait that post messages into outboxes and publish them from there into rings.
use Rattle.std.specs.Prelude.{◌≡◌, ◌⊎◌, ℕ, ◌+◌, ◌<◌, ◌≤◌, Bool, true, false, List, [], ◌++◌, map}
use Rattle.std.specs.Prelude.{length}
use Rattle.std.specs.List.{list_any}
use Rattle.din_trace.specs.declared.record.DinRecord.{DinRecord}
use Rattle.stage_core.specs.Places.{flat_map_with_past, list_if}
use Rattle.stage_core.specs.SecondLevel.{Parts}
use Rattle.stage_core.specs.Streams.{turn_of, messages_to, replies, is_finish}
use Rattle.stage_core.specs.Merging.{MergeState, wanted, merged, all_used}
use Rattle.stage_core.specs.declared.message.Side.{Side}
use Rattle.stage_core.specs.declared.message.Side.TheVariants as side
use Rattle.stage_core.specs.declared.message.What.{What}
use Rattle.stage_core.specs.declared.message.Turn.{Turn}
use Rattle.stage_core.specs.declared.message.Turn.TheVariants as turn
use Rattle.stage_core.specs.declared.message.Want.{Want}
use Rattle.stage_core.specs.declared.message.Want.TheVariants as want
use Rattle.stage_core.specs.declared.message.ToStage.{ToStage}
use Rattle.stage_core.specs.declared.message.ToStage.TheVariants as to_stage
use Rattle.stage_core.specs.declared.message.FromStage.{FromStage}

-- the sending end of a ring: all messages that were posted, and the last of them, which the outbox
-- still holds
pub record Sender (A : Type 0) : Type 0 where
  pub posted : List A
  pub held : List A

-- the splitter between two events: the events whose messages it has posted, whether it has posted
-- the end too, and its senders
pub record SplitterThread : Type 0 where
  pub events : List DinRecord
  pub closed : Bool
  pub order : Sender Turn
  pub to : Side → Sender ToStage

-- a stage: the messages that it has received, its sender, and the messages still to be posted
pub record StageThread : Type 0 where
  pub received : List ToStage
  pub from : Sender FromStage
  pub unposted : List FromStage

-- the merge: the messages that it has received, its state, and the second level's requests
pub record MergeThread : Type 0 where
  pub turns : List Turn
  pub from : Side → List FromStage
  pub at : MergeState
  pub given : List What

-- the four threads, and the messages in the rings: those that were published and not received
pub record Threads : Type 0 where
  pub splitter : SplitterThread
  pub stage : Side → StageThread
  pub merge : MergeThread
  pub order : List Turn
  pub to : Side → List ToStage
  pub from : Side → List FromStage

-- on each ring, every posted message was received, or waits in the ring, or is held in the outbox
pub record RingsCarry (n : Threads) : Type 0 where
  pub order : n.splitter.order.posted ≡ n.merge.turns ++ (n.order ++ n.splitter.order.held)
  pub to : (s : Side) →
      (n.splitter.to s).posted ≡ (n.stage s).received ++ (n.to s ++ (n.splitter.to s).held)
  pub from : (s : Side) →
      (n.stage s).from.posted ≡ n.merge.from s ++ (n.from s ++ (n.stage s).from.held)

-- on each ring, the splitter has posted exactly the messages of its events, and behind them the end
-- if it is closed
pub record HasPosted (t : SplitterThread) : Type 0 where
  pub order : t.order.posted ≡ map (λ e. turn_of e.label) t.events ++ list_if t.closed turn.Finish
  pub to : (s : Side)
      → (t.to s).posted
      ≡ flat_map_with_past (messages_to s) t.events ++ list_if t.closed to_stage.Finish

-- what a stage has posted and has still to post are its answers to what it has received
abbrev pub HasAnswered : Parts → Side → StageThread → Type 0
HasAnswered parts s t = t.from.posted ++ t.unposted ≡ replies parts s t.received

-- the merge's rule has used all messages that were received
abbrev pub HasMerged : MergeThread → Type 0
HasMerged t = merged t.turns (t.from side.I) (t.from side.D) ≡ all_used t.given t.at

-- how many messages the splitter holds in its outboxes
abbrev pub splitter_holds : SplitterThread → ℕ
splitter_holds t = length t.order.held + length (t.to side.I).held + length (t.to side.D).held

-- the splitter may wait for room if it holds a message
pub record SplitterMayWait (t : SplitterThread) : Type 0 where
  pub posted : HasPosted t
  pub holds : 0 < splitter_holds t

-- the splitter has ended: the end is posted, and all messages are published
pub record SplitterEnded (t : SplitterThread) : Type 0 where
  pub posted : HasPosted t
  pub closed : t.closed ≡ true
  pub published : splitter_holds t ≡ 0

-- a stage may wait for room if it holds a message
pub record MayAwaitRoom (parts : Parts) (s : Side) (t : StageThread) : Type 0 where
  pub answered : HasAnswered parts s t
  pub holds : 0 < length t.from.held

-- a stage has published all answers, and whether it has received Finish is as the flag says
pub record HasPublished (finished : Bool) (parts : Parts) (s : Side) (t : StageThread)
    : Type 0 where
  pub answered : HasAnswered parts s t
  pub posted : t.unposted ≡ []
  pub published : t.from.held ≡ []
  pub finish : list_any is_finish t.received ≡ finished

-- a stage may wait for a message: all answers are published, and Finish was not received
abbrev pub MayAwaitMessage : Parts → Side → StageThread → Type 0
MayAwaitMessage = HasPublished false

-- a stage has ended: all answers are published, and Finish was received
abbrev pub StageEnded : Parts → Side → StageThread → Type 0
StageEnded = HasPublished true

-- the merge has ended: it has used all messages that it received, and wants no more
abbrev pub MergeEnded : MergeThread → Type 0
MergeEnded t = HasMerged t × (wanted t.at ≡ want.Nothing)

-- nothing can be published: no message is held, or the ring is full
abbrev pub NoRoom : {A : Type 0} → ℕ → Sender A → List A → Type 0
NoRoom capacity s waiting = (s.held ≡ []) ⊎ (capacity ≤ length waiting)

-- no message waits in the ring that is wanted
abbrev pub NothingFor : Want → Threads → Type 0
NothingFor want.Order n = n.order ≡ []
NothingFor want.I n = n.from side.I ≡ []
NothingFor want.D n = n.from side.D ≡ []
NothingFor want.Nothing n = ⊥

-- the splitter waits, and no ring has room for a message that it holds
pub record SplitterWaits (capacity : ℕ) (n : Threads) : Type 0 where
  pub may : SplitterMayWait n.splitter
  pub order : NoRoom capacity n.splitter.order n.order
  pub to : (s : Side) → NoRoom capacity (n.splitter.to s) (n.to s)

-- a stage waits for room and there is none, or for a message and there is none
abbrev pub StageWaits : Parts → ℕ → Side → Threads → Type 0
StageWaits parts capacity s n =
    (MayAwaitRoom parts s (n.stage s) × NoRoom capacity (n.stage s).from (n.from s))
    ⊎ (MayAwaitMessage parts s (n.stage s) × (n.to s ≡ []))

-- the merge waits for a message, and there is none
abbrev pub MergeWaits : Threads → Type 0
MergeWaits n = HasMerged n.merge × NothingFor (wanted n.merge.at) n

-- each thread has ended, or waits for something that is not there
pub record NoneGoesOn (parts : Parts) (capacity : ℕ) (n : Threads) : Type 0 where
  pub splitter : SplitterWaits capacity n ⊎ SplitterEnded n.splitter
  pub stage : (s : Side) → StageWaits parts capacity s n ⊎ StageEnded parts s (n.stage s)
  pub merge : MergeWaits n ⊎ MergeEnded n.merge

-- all four threads have ended
pub record AllEnded (parts : Parts) (n : Threads) : Type 0 where
  pub splitter : SplitterEnded n.splitter
  pub stage : (s : Side) → StageEnded parts s (n.stage s)
  pub merge : MergeEnded n.merge
