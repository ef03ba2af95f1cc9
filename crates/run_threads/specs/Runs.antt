-- The result of a whole run.
use Rattle.std.specs.Prelude.{◌≡◌, ℕ, List, None, Result, Ok, Err}
use Rattle.din_trace.specs.Text.{Remaining}
use Rattle.din_trace.specs.declared.record.DinRecord.{DinRecord}
use Rattle.stage_core.specs.Events.{events}
use Rattle.stage_core.specs.SecondLevel.{Hierarchy, parts_in, second_level_requests, totals}
use Rattle.stage_core.specs.Streams as streams
use Rattle.stage_core.specs.Merging as rule
use Rattle.stage_core.specs.declared.message.Side.TheVariants as side
use Rattle.stage_core.specs.declared.selection.Selection.{Selection}
use Rattle.run_threads.specs.Faults.{MayAnswer}
use Rattle.run_threads.specs.Ends.{ArePaired, HaveCapacity, whole, on_order, on_to_i, on_to_d}
use Rattle.run_threads.specs.Ends.{on_from_i, on_from_d}
use Rattle.run_threads.specs.Threads.{LeavesRest, at_end}
use Rattle.run_threads.specs.declared.fault.RunFault.{RunFault}
use Rattle.run_threads.specs.declared.pipeline.Settled.{Settled}

-- the threads of a run, with rings of this capacity, have simulated exactly these events
pub record HasRun (ring : ℕ) (c : Hierarchy) (es : List DinRecord) (s : Settled) : Type 0 where
  pub capacity : HaveCapacity ring s.rings
  -- each ring has carried its whole stream, and all of it was received; the only `Finish` of a
  -- stream is its last message (by the law `finish_ends_each_stream` of stage_core)
  pub paired : ArePaired s.rings
  pub order : on_order s.rings ≡ whole (streams.order es)
  pub to_i : on_to_i s.rings ≡ whole (streams.to_side side.I es)
  pub to_d : on_to_d s.rings ≡ whole (streams.to_side side.D es)
  pub from_i : on_from_i s.rings ≡ whole (streams.from_side (parts_in c) side.I es)
  pub from_d : on_from_d s.rings ≡ whole (streams.from_side (parts_in c) side.D es)
  -- the rule of the merge, applied to the received messages, gives the second level exactly its
  -- requests in the order of the trace, and comes to its end
  pub merged : rule.merged (on_order s.rings).received (on_from_i s.rings).received
      (on_from_d s.rings).received
      ≡ rule.all_used (second_level_requests (parts_in c) es) rule.AtEnd
  -- the counts are those of the definitions
  pub counted : s.totals ≡ totals c es

-- the result of a run over a source that had this left, and what the source has left after it
abbrev pub RunsOver : ℕ → Hierarchy → Selection → Remaining → (Remaining → Type 0)
    → Result Settled RunFault → Type 0
RunsOver ring c selection l HasLeft (Ok settled) =
    (l.fault ≡ None) × HasRun ring c (events selection l.records) settled × HasLeft at_end
RunsOver ring c selection l HasLeft (Err why) = MayAnswer l.fault why × LeavesRest l HasLeft
