-- The caches of the rows of one portion of the grid that have one selection.
use Rattle.std.specs.Prelude.{◌≡◌, ◌≤◌, List, length, map}
use Rattle.std.specs.List.{All}
use Rattle.din_trace.specs.declared.record.DinRecord.{DinRecord}
use Rattle.stage_core.specs.declared.selection.Selection.{Selection}
use Rattle.grid_run.specs.Backs.{BackTask, HasNumbers, IsPlacedIn, queue_seats}
use Rattle.grid_run.specs.Backs.{seats_of_shared, task_of_shelf}
use Rattle.grid_run.specs.Banks.{NothingWaitsIn, WasAsked, each_of, tasks_of_banks}
use Rattle.grid_run.specs.FirstLevels.{WasGiven, first_task, numbered_by, sent_by}
use Rattle.grid_run.specs.Fronts.{front_rules}
use Rattle.grid_run.specs.Picking.{picked_by}
use Rattle.grid_run.specs.Seats.{SeatRules, rules_on}
use Rattle.grid_run.specs.declared.lane.Lane.{Lane}
use Rattle.grid_run.specs.declared.plan.LanePlan.{LanePlan}

-- what a lane does: its selection, the rules of its first-level caches, and its second levels
pub record LaneTask : Type 0 where
  pub selection : Selection
  pub i : SeatRules
  pub d : SeatRules
  pub backs : List BackTask

-- what this lane does
unfoldable pub lane_task : Lane → LaneTask
lane_task l = record {
  selection = picked_by l.first.picker;
  i = map front_rules l.first.i.items;
  d = map front_rules l.first.d.items;
  backs = each_of (tasks_of_banks l.banks.items);
}

-- what a lane of this plan does
unfoldable pub task_of_plan : LanePlan → LaneTask
task_of_plan p = record {
  selection = p.selection;
  i = map rules_on p.i.items;
  d = map rules_on p.d.items;
  backs = map task_of_shelf p.backs.items;
}

-- all second levels are behind caches of the lane
abbrev pub IsPlaced : LaneTask → Type 0
IsPlaced t = All (IsPlacedIn t.i t.d) t.backs

-- each queue is behind the seats of one of the second levels, in their order
abbrev pub AreMatched : Lane → Type 0
AreMatched l = map queue_seats l.first.queues.items
    ≡ map seats_of_shared (tasks_of_banks l.banks.items)

-- the first levels of a lane were given records, and its second levels all that these sent for
-- `past`; what they sent for later ones waits in the queues
pub record HasGiven (past records : List DinRecord) (l : Lane) : Type 0 where
  pub given : WasGiven (sent_by (first_task l.first) past) records l.first
  pub numbered : All (HasNumbers (numbered_by l.first)) l.first.queues.items
  pub asked : All (WasAsked (numbered_by l.first) (sent_by (first_task l.first) past)) l.banks.items
  pub matched : AreMatched l

-- the first levels of a lane have served what is selected of these records; its second levels were
-- given what these sent for `past`, which are no more
pub record FirstLevelsHaveServed (records : List DinRecord) (l : Lane) : Type 0 where
  pub past : List DinRecord
  pub some : length past ≤ length records
  pub lane : HasGiven past records l

-- the second levels of a lane have served all that they were given
abbrev pub AreIdle : Lane → Type 0
AreIdle l = All NothingWaitsIn l.banks.items

-- all caches of a lane have served what is selected of these records
pub record AllLevelsHaveServed (records : List DinRecord) (l : Lane) : Type 0 where
  pub lane : HasGiven records records l
  pub idle : AreIdle l
