-- What each of the four threads has sent and received.
use Rattle.std.specs.Prelude.{◌≡◌, true, List, [], ◌∷◌, ◌++◌, option_to_list}
use Rattle.std.specs.Prelude.{Some, None, Result, Ok, Err}
use Rattle.pipe_rings.specs.Rings.{sent, received}
use Rattle.din_trace.specs.declared.record.DinRecord.{DinRecord}
use Rattle.din_trace.specs.Text.{Remaining}
use Rattle.cache_core.specs.Counts.{counts_of}
use Rattle.cache_core.specs.Standing.{rules_of}
use Rattle.cache_core.specs.declared.counts.Counts.{Counts}
use Rattle.stage_core.specs.Events.{events}
use Rattle.stage_core.specs.Finishes.{EndOnce}
use Rattle.stage_core.specs.SecondLevel.{second_history}
use Rattle.stage_core.specs.Streams.{is_finish, taken_in}
use Rattle.stage_core.specs.Merging.{MergeState, AtEnd}
use Rattle.stage_core.specs.Standing.{StageStandsFor, L2StandsFor, cache_of, side_of, outbox_of}
use Rattle.stage_core.specs.Standing.{l2_cache}
use Rattle.stage_core.specs.Waiting.{HasPosted, HasAnswered, HasMerged}
use Rattle.stage_core.specs.declared.message.Routed.{Routed}
use Rattle.stage_core.specs.declared.message.What.{What}
use Rattle.stage_core.specs.declared.message.Turn.TheVariants as turn
use Rattle.stage_core.specs.declared.message.ToStage.{ToStage}
use Rattle.stage_core.specs.declared.message.ToStage.TheVariants as to_stage
use Rattle.stage_core.specs.declared.selection.Selection.{Selection}
use Rattle.stage_core.specs.declared.l1_stage.L1Stage.{L1Stage}
use Rattle.stage_core.specs.declared.l2_stage.L2Stage.{L2Stage}
use Rattle.run_threads.specs.declared.ends.SplitterEnds.{SplitterEnds}
use Rattle.run_threads.specs.declared.ends.StageEnds.{StageEnds}
use Rattle.run_threads.specs.declared.ends.MergeEnds.{MergeEnds}
use Rattle.run_threads.specs.declared.fault.RunFault.{RunFault}
use Rattle.run_threads.specs.Faults.{MayAnswer}
use Rattle.run_threads.specs.Ends.{SameStageEnds, SameMergeEnds}
use Rattle.run_threads.specs.Waits.{splitter_at, OfStage, merge_at}

-- the splitter sent the messages of one event, or those of the end
pub record Sends (was : SplitterEnds) (routed : Routed) (now : SplitterEnds) : Type 0 where
  pub order : sent now.order ≡ sent was.order ++ routed.turn ∷ []
  pub to_i : sent now.to_i ≡ sent was.to_i ++ option_to_list routed.i
  pub to_d : sent now.to_d ≡ sent was.to_d ++ option_to_list routed.d

-- these are the messages of the end: `Finish` on each ring
pub record IsEnd (routed : Routed) : Type 0 where
  pub turn : routed.turn ≡ turn.Finish
  pub i : routed.i ≡ Some to_stage.Finish
  pub d : routed.d ≡ Some to_stage.Finish

-- a source has answered some of the records that it had left; what it has left now is the rest
pub record LeavesRest (l : Remaining) (HasLeft : Remaining → Type 0) : Type 0 where
  pub gone : List DinRecord
  pub rest : Remaining
  pub records : l.records ≡ gone ++ rest.records
  pub fault : rest.fault ≡ l.fault
  pub left : HasLeft rest

-- nothing is left of a source, and there was no fault
abbrev pub at_end : Remaining
at_end = record { records = []; fault = None }

-- the splitter has sent all messages of what a source had left, or has stopped before the end
abbrev pub SplitUp : Selection → Remaining → (Remaining → Type 0) → SplitterEnds
    → Result (Unit {0}) RunFault
    → Type 0
SplitUp selection l HasLeft ends (Ok done) =
    (l.fault ≡ None) × HasPosted (splitter_at (events selection l.records) true ends)
    × HasLeft at_end
SplitUp selection l HasLeft ends (Err why) = MayAnswer l.fault why × LeavesRest l HasLeft

-- a stage, compared with its start: it has answered what it has received, and sent all answers
pub record StageServed (began : L1Stage) (was : StageEnds) (stage : L1Stage) (now : StageEnds)
    : Type 0 where
  pub rings : SameStageEnds was now
  pub side : side_of stage ≡ side_of began
  pub rules : rules_of (cache_of stage) ≡ rules_of (cache_of began)
  pub stands : StageStandsFor stage (received now.from_splitter)
  pub answered : OfStage HasAnswered stage now
  pub empty : outbox_of stage ≡ []

-- a stage has served its whole stream, up to `Finish`
pub record StageServedAll (began : L1Stage) (was : StageEnds) (stage : L1Stage) (now : StageEnds)
    : Type 0 where
  pub served : StageServed began was stage now
  pub finish : EndOnce is_finish to_stage.Finish (received now.from_splitter)

-- the rule of the merge has used all messages that were received and is now in state `at`, and the
-- second level has served all requests that the rule took
pub record MergeServed (at : MergeState) (began : L2Stage) (was : MergeEnds) (u : L2Stage)
    (now : MergeEnds) : Type 0 where
  pub rings : SameMergeEnds was now
  pub rules : rules_of (l2_cache u) ≡ rules_of (l2_cache began)
  pub requests : List What
  pub used : HasMerged (merge_at at requests now)
  pub stands : L2StandsFor u requests

-- a stage has served its whole stream, and these are its counts
pub record StageCounted (began : L1Stage) (was : StageEnds) (counts : Counts) (now : StageEnds)
    : Type 0 where
  pub stage : L1Stage
  pub ended : StageServedAll began was stage now
  pub counted : (messages : List ToStage) → StageStandsFor stage messages
      → counts ≡ counts_of (rules_of (cache_of stage)) (taken_in messages)

-- the merge is at its end, and these are the counts of the second level
pub record MergeCounted (began : L2Stage) (was : MergeEnds) (counts : Counts) (now : MergeEnds)
    : Type 0 where
  pub u : L2Stage
  pub merged : MergeServed AtEnd began was u now
  pub counted : (requests : List What) → L2StandsFor u requests
      → counts ≡ counts_of (rules_of (l2_cache u)) (second_history requests)
