use Rattle.std.proofs.Common.{◌≡◌, ◌<◌, ◌≤◌, ◌-◌, ◌++◌, ℕ, List, [], length, take}
use Rattle.std.specs.List.{All}
use Rattle.din_trace.specs.declared.record.DinRecord.{DinRecord}
use Rattle.grid_core.specs.Written.{rules_at_index}
use Rattle.stage_core.specs.Events.{history}
use Rattle.stage_core.specs.declared.message.Side.TheVariants as side
use Rattle.grid_run.specs.Fetching.{AsksNoData, fetched}
use Rattle.grid_run.specs.Fronts.{FrontAt, front_rules}
use Rattle.grid_run.proofs.fetches.fetch_on.Given as goal

-- the records that were passed are fetches, and were served
abbrev pub invariant-fetches : goal.invariant-fetches
invariant-fetches l = record {
  stands : (blocks : List ℕ) (es : List DinRecord) →
      FrontAt blocks (history side.I es) l.initial.front →
      FrontAt blocks (history side.I (es ++ take l.count l.part)) l.front;
  silent : (blocks : List ℕ) (es : List DinRecord) →
      FrontAt blocks (history side.I es) l.initial.front →
      (cell : ℕ) → cell < length (front_rules l.initial.front) →
      fetched (rules_at_index (front_rules l.initial.front) cell) es (take l.count l.part) ≡ [];
  no_data : All AsksNoData (take l.count l.part);
  within : l.count ≤ length l.part;
  rules : front_rules l.front ≡ front_rules l.initial.front;
}

-- each turn leaves fewer records
abbrev pub decreases-fetches : goal.decreases-fetches
decreases-fetches l = length l.part - l.count
