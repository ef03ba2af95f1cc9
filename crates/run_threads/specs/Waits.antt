-- A thread's machine and ends as stage_core's rules see them, and when the thread may wait.
use Rattle.std.specs.Prelude.{◌≡◌, ℕ, ◌+◌, Bool, true, List, length}
use Rattle.pipe_rings.specs.Rings as ring
use Rattle.pipe_rings.specs.Rings.{received, LookedForRoom, IsAnnounced, SameRx}
use Rattle.pipe_rings.specs.declared.rx.Rx.{Rx}
use Rattle.pipe_rings.specs.declared.tx.Tx.{Tx}
use Rattle.din_trace.specs.declared.record.DinRecord.{DinRecord}
use Rattle.cache_core.specs.Standing.{rules_of}
use Rattle.stage_core.specs.SecondLevel.{Parts, parts_of}
use Rattle.stage_core.specs.Merging.{MergeState}
use Rattle.stage_core.specs.Standing.{cache_of, side_of, outbox_of}
use Rattle.stage_core.specs.Waiting.{Sender, SplitterThread, StageThread, MergeThread}
use Rattle.stage_core.specs.Waiting.{HasPosted, HasMerged, SplitterMayWait, SplitterEnded}
use Rattle.stage_core.specs.Waiting as waiting
use Rattle.stage_core.specs.declared.message.Side.{Side}
use Rattle.stage_core.specs.declared.message.Side.TheVariants as side
use Rattle.stage_core.specs.declared.message.What.{What}
use Rattle.stage_core.specs.declared.message.ToStage.{ToStage}
use Rattle.stage_core.specs.declared.message.FromStage.{FromStage}
use Rattle.stage_core.specs.declared.l1_stage.L1Stage.{L1Stage}
use Rattle.run_threads.specs.declared.ends.SplitterEnds.{SplitterEnds}
use Rattle.run_threads.specs.declared.ends.StageEnds.{StageEnds}
use Rattle.run_threads.specs.declared.ends.MergeEnds.{MergeEnds}

-- what stage_core's rules need to know of a sending end
abbrev pub sender : {Message : Type 0} → Tx Message → Sender Message
sender tx = record { posted = ring.sent tx; held = ring.posted tx }

-- the splitter's sending end to a side
abbrev pub sender_to : SplitterEnds → Side → Sender ToStage
sender_to ends side.I = sender ends.to_i
sender_to ends side.D = sender ends.to_d

-- the splitter with these ends, after these events, and after the end too if `closed`
abbrev pub splitter_at : List DinRecord → Bool → SplitterEnds → SplitterThread
splitter_at es closed ends = record {
  events = es;
  closed = closed;
  order = sender ends.order;
  to = sender_to ends;
}

-- what the splitter has posted is all messages of some events, or also those of the end
abbrev pub PostedWhole : SplitterEnds → Type 0
PostedWhole ends = (es : List DinRecord) × (closed : Bool) × HasPosted (splitter_at es closed ends)

-- a splitter with these ends may wait
abbrev pub SplitterMay : SplitterEnds → Type 0
SplitterMay ends =
    (es : List DinRecord) × (closed : Bool) × SplitterMayWait (splitter_at es closed ends)

-- a splitter with these ends has ended, as the law of waiting threads has it
abbrev pub SplitterHasEnded : SplitterEnds → Type 0
SplitterHasEnded ends = (es : List DinRecord) × SplitterEnded (splitter_at es true ends)

-- how many messages the splitter has posted that are not published yet
abbrev pub held : SplitterEnds → ℕ
held ends = length (ring.posted ends.order) + length (ring.posted ends.to_i)
    + length (ring.posted ends.to_d)

-- nothing is left to announce on any of the three rings: no message went in since the sender last
-- announced what went in
pub record AllAnnounced (ends : SplitterEnds) : Type 0 where
  pub order : IsAnnounced ends.order
  pub to_i : IsAnnounced ends.to_i
  pub to_d : IsAnnounced ends.to_d

-- all that the splitter has posted is published, and nothing of it is left to announce
pub record AllPublished (ends : SplitterEnds) : Type 0 where
  pub held : held ends ≡ 0
  pub announced : AllAnnounced ends

-- all answers that a stage has posted are published, and none of them is left to announce
pub record AnswersPublished (ends : StageEnds) : Type 0 where
  pub held : length (ring.posted ends.to_merge) ≡ 0
  pub announced : IsAnnounced ends.to_merge

-- for each of the three rings: all posted messages are published, or it has no known free place
pub record LookedEverywhere (ends : SplitterEnds) : Type 0 where
  pub order : LookedForRoom ends.order
  pub to_i : LookedForRoom ends.to_i
  pub to_d : LookedForRoom ends.to_d

-- a rule of stage_core holds for this stage with these ends
abbrev pub OfStage : (Parts → Side → StageThread → Type 0) → L1Stage → StageEnds → Type 0
OfStage Rule stage ends = Rule (parts_of (rules_of (cache_of stage))) (side_of stage) record {
  received = received ends.from_splitter;
  from = sender ends.to_merge;
  unposted = outbox_of stage;
}

-- a stage with these ends has ended, as the law of waiting threads has it
abbrev pub StageHasEnded : L1Stage → StageEnds → Type 0
StageHasEnded = OfStage waiting.StageEnded

-- the merge's receiving end from a side
abbrev pub end_from : MergeEnds → Side → Rx FromStage
end_from ends side.I = ends.from_i
end_from ends side.D = ends.from_d

-- of the merge's ends, at most the one from this side has received a message
abbrev pub OnlyFrom : Side → MergeEnds → MergeEnds → Type 0
OnlyFrom side.I was now =
    (now.order ≡ was.order) × SameRx was.from_i now.from_i × (now.from_d ≡ was.from_d)
OnlyFrom side.D was now =
    (now.order ≡ was.order) × SameRx was.from_d now.from_d × (now.from_i ≡ was.from_i)

-- the merge in state `at`, which has given these requests to the second level
abbrev pub merge_at : MergeState → List What → MergeEnds → MergeThread
merge_at at given ends = record {
  turns = received ends.order;
  from = λ s. received (end_from ends s);
  at = at;
  given = given;
}

-- the rule of the merge has used all messages that were received, and is now in state `at`
abbrev pub MergeUsed : MergeState → MergeEnds → Type 0
MergeUsed at ends = (given : List What) × HasMerged (merge_at at given ends)
