-- The rows of a grid.
use Rattle.std.specs.Prelude.{◌≡◌, ◌<◌, ℕ, ⊤, List, Some, None, Result, Ok, Err, Option, length}
use Rattle.std.specs.Prelude.{get_or}
use Rattle.std.specs.List.{All}
use Rattle.din_trace.specs.Text.{Remaining}
use Rattle.stage_core.specs.Config.{hierarchy_of}
use Rattle.stage_core.specs.Events.{IsBounded}
use Rattle.stage_core.specs.SecondLevel.{Hierarchy}
use Rattle.stage_core.specs.declared.selection.Selection.{Selection}
use Rattle.grid_run.specs.Backs.{BackTask}
use Rattle.grid_run.specs.Faults.{GridMayAnswer}
use Rattle.grid_run.specs.Lanes.{IsPlaced, LaneTask, task_of_plan}
use Rattle.grid_run.specs.Seats.{IsCellOf, IsSeatOf}
use Rattle.grid_run.specs.Workers.{WorkerHasServed}
use Rattle.grid_run.specs.declared.fault.GridFault.{GridFault}
use Rattle.grid_run.specs.declared.grid.Row.{Row}
use Rattle.grid_run.specs.declared.grid.Setup.{Setup}
use Rattle.grid_run.specs.declared.grid.Setup.TheVariants.{Simulated, Refused}
use Rattle.grid_run.specs.declared.plan.LanePlan.{LanePlan}
use Rattle.grid_run.specs.declared.plan.Place.{Place}
use Rattle.grid_run.specs.declared.worker.Worker.{Worker}

-- the second levels at a place are behind its seats, and one of them has these rules
pub record IsBackOf (b : BackTask) (c : Hierarchy) (p : Place) : Type 0 where
  pub on_i : b.i ≡ p.i
  pub on_d : b.d ≡ p.d
  pub cell : IsCellOf b.rules c.u p.u.cell

-- the place in a lane is that of a configuration with this selection
pub record IsPlaceIn (t : LaneTask) (c : Hierarchy) (s : Selection) (p : Place) : Type 0 where
  pub selection : t.selection ≡ s
  pub i : IsSeatOf t.i c.i p.i
  pub d : IsSeatOf t.d c.d p.d
  pub family : p.u.family < length t.backs
  pub back : (other : BackTask) → IsBackOf (get_or t.backs p.u.family other) c p

-- the place is that of a configuration with this selection
pub record IsPlaceOf (ts : List LaneTask) (c : Hierarchy) (s : Selection) (p : Place) : Type 0 where
  pub lane : p.lane < length ts
  pub inside : (other : LaneTask) → IsPlaceIn (get_or ts p.lane other) c s p

-- a row that is simulated has its place, and one that was refused has none
abbrev pub RowHasPlace : List LaneTask → Setup → Option Place → Type 0
RowHasPlace ts (Simulated c s) (Some p) = IsPlaceOf ts (hierarchy_of c) s p
RowHasPlace ts (Simulated c s) None = ⊥
RowHasPlace ts (Refused fault) (Some p) = ⊥
RowHasPlace ts (Refused fault) None = ⊤

-- the same for each row
pub record HavePlaces (ts : List LaneTask) (rows : List Row) (places : List (Option Place))
    : Type 0 where
  pub as_many : length places ≡ length rows
  pub each : (k : ℕ) (r : Row) (p : Option Place) → k < length rows →
      RowHasPlace ts (get_or rows k r).setup (get_or places k p)

-- a plan of a lane has a bounded selection, and its second levels are behind caches of the lane
pub record IsSound (p : LanePlan) : Type 0 where
  pub bounded : IsBounded p.selection
  pub placed : IsPlaced (task_of_plan p)

-- the result of a run over a source that had this left: all workers have served what is selected of
-- its records, or the fault is one that a run may answer
abbrev pub ServedAll : Remaining → List Worker → Result (Unit {0}) GridFault → Type 0
ServedAll l workers (Ok done) = (l.fault ≡ None) × All (WorkerHasServed l.records) workers
ServedAll l workers (Err why) = GridMayAnswer l.fault why
