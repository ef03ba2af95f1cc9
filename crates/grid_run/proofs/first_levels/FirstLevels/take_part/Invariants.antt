use Rattle.std.proofs.Common.{◌≡◌, ◌≤◌, ◌-◌, ◌++◌, List, length, take}
use Rattle.din_trace.specs.declared.record.DinRecord.{DinRecord}
use Rattle.grid_run.specs.Backs.{RequestsFor}
use Rattle.grid_run.specs.FirstLevels.{StaysNumberedIn, WasGiven, first_task}
use Rattle.grid_run.proofs.first_levels.FirstLevels.take_part.Given as goal

-- the records that were passed were given
abbrev pub invariant-records : goal.invariant-records
invariant-records l = record {
  given : (served : RequestsFor) (past : List DinRecord) → WasGiven served past l.initial.self →
      WasGiven served (past ++ take l.index l.part) l.self;
  within : l.index ≤ length l.part;
  numbers : StaysNumberedIn l.initial.self l.self;
  task : first_task l.self ≡ first_task l.initial.self;
}

-- each turn leaves fewer records
abbrev pub decreases-records : goal.decreases-records
decreases-records l = length l.part - l.index
