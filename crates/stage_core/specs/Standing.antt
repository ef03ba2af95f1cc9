-- How the fields of the machines relate to what the machines have received.
use Rattle.std.specs.Prelude.{◌≡◌, ℕ, ◌+◌, Bool, true, false, List, [], length, count_by}
use Rattle.std.specs.Prelude.{Result, OnOk, OnErr, IsErr}
use Rattle.std.specs.List.{list_any}
use Rattle.din_trace.specs.declared.record.DinRecord.{DinRecord}
use Rattle.cache_core.specs.declared.cache.Cache.{Cache}
use Rattle.cache_core.specs.Standing.{StandsFor, rules_of, served_of, counts_kept, has_failed}
use Rattle.stage_core.specs.Events.{is_reference}
use Rattle.stage_core.specs.SecondLevel.{Hierarchy, second_history}
use Rattle.stage_core.specs.Streams.{taken_in, is_finish}
use Rattle.stage_core.specs.Merging.{MergeState, AtOrder, AtI, AtD, AtBoth, LastI, LastD, AtEnd}
use Rattle.stage_core.specs.declared.merge.State.{State}
use Rattle.stage_core.specs.declared.merge.State.TheVariants as state
use Rattle.stage_core.specs.declared.message.Side.{Side}
use Rattle.stage_core.specs.declared.message.What.{What}
use Rattle.stage_core.specs.declared.message.ToStage.{ToStage}
use Rattle.stage_core.specs.declared.message.FromStage.{FromStage}
use Rattle.stage_core.specs.declared.selection.Selection.{Selection}
use Rattle.stage_core.specs.declared.l1_stage.L1Stage.{L1Stage}
use Rattle.stage_core.specs.declared.l2_stage.L2Stage.{L2Stage}

-- the state of the merge, from the field that keeps it
abbrev pub state_of : State → MergeState
state_of state.Order = AtOrder
state_of state.I = AtI
state_of state.D = AtD
state_of state.Both = AtBoth
state_of state.LastI = LastI
state_of state.LastD = LastD
state_of state.End = AtEnd

-- a selector: its selection, how many records it was offered, and how many of them are references
pub record Offers : Type 0 where
  pub selection : Selection
  pub records : ℕ
  pub references : ℕ

-- the selector was offered these records
pub record WasOffered (o : Offers) (offered : List DinRecord) : Type 0 where
  pub count : o.records ≡ length offered
  pub references : o.references ≡ count_by is_reference offered

-- the side of a first-level stage
unfoldable pub side_of : L1Stage → Side
side_of s = s.side

-- the cache of a first-level stage
unfoldable pub cache_of : L1Stage → Cache
cache_of s = s.cache

-- the messages that a first-level stage has still to send
unfoldable pub outbox_of : L1Stage → List FromStage
outbox_of s = s.outbox

-- whether a first-level stage has received Finish
unfoldable pub took_finish : L1Stage → Bool
took_finish s = s.took_finish

-- a stage may receive a message: it has sent all answers, and has not received Finish
pub record IsReady (s : L1Stage) : Type 0 where
  pub goes_on : took_finish s ≡ false
  pub empty : outbox_of s ≡ []

-- a stage has finished: it has received Finish and has sent all answers
pub record StageIsFinished (s : L1Stage) : Type 0 where
  pub took : took_finish s ≡ true
  pub empty : outbox_of s ≡ []

-- the stage has received these messages: its cache has served their requests, and Finish was
-- received if it is one of them
pub record StageStandsFor (s : L1Stage) (messages : List ToStage) : Type 0 where
  pub cache : StandsFor (cache_of s) (taken_in messages)
  pub finish : took_finish s ≡ list_any is_finish messages

-- after a failed allocation: the cache has failed, and its counts are as before
pub record HasFailedSince (old new : Cache) : Type 0 where
  pub failed : has_failed new ≡ true
  pub counts : counts_kept new ≡ counts_kept old
  pub served : served_of new ≡ served_of old

-- a call has served one event more, or an allocation failed and so has the cache
pub record ServesOne {E : Type 0} (result : Result (Unit {0}) E) (old new : Cache) : Type 0 where
  pub served : OnOk result (served_of new ≡ served_of old + 1)
  pub works : OnOk result (has_failed new ≡ false)
  pub refused : OnErr result (HasFailedSince old new)
  pub failed : has_failed old ≡ true → IsErr result
  pub rules : rules_of new ≡ rules_of old

-- the cache of the second level
unfoldable pub l2_cache : L2Stage → Cache
l2_cache s = s.cache

-- the second level has served these requests
pub record L2StandsFor (s : L2Stage) (requests : List What) : Type 0 where
  pub cache : StandsFor (l2_cache s) (second_history requests)

-- the rules of the caches of two first-level stages and a second level
abbrev pub hierarchy_by : L1Stage → L1Stage → L2Stage → Hierarchy
hierarchy_by i d u = record {
  i = rules_of (cache_of i);
  d = rules_of (cache_of d);
  u = rules_of (l2_cache u);
}
