-- Which events a lane makes of the records of a trace.
use Rattle.std.specs.Prelude.{◌≡◌, List, false}
use Rattle.din_trace.specs.declared.record.DinRecord.{DinRecord}
use Rattle.stage_core.specs.Standing.{WasOffered}
use Rattle.stage_core.specs.declared.selection.Selection.{Selection}
use Rattle.grid_run.specs.declared.picker.Picker.{Picker}

-- by which selection records are picked
abbrev pub picked_by : Picker → Selection
picked_by p = p.selector.selection

-- these records were offered; where each of them is an event as it is, nobody counts them
pub record HasPicked (records : List DinRecord) (p : Picker) : Type 0 where
  pub offered : p.whole ≡ false → WasOffered p.selector records
