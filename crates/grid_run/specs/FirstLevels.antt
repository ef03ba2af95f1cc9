-- The first-level caches of a lane, and what they send.
use Rattle.std.specs.Prelude.{◌++◌, ℕ, List, map}
use Rattle.std.specs.List.{All}
use Rattle.din_trace.specs.declared.record.DinRecord.{DinRecord}
use Rattle.grid_core.specs.Numbered.{blocks_in}
use Rattle.stage_core.specs.Events.{events, history}
use Rattle.stage_core.specs.declared.message.Side.TheVariants as side
use Rattle.stage_core.specs.declared.selection.Selection.{Selection}
use Rattle.grid_run.specs.Backs.{AreSeatedIn, AreWaiting, QueuesStayNumbered, RequestsFor}
use Rattle.grid_run.specs.Backs.{SharedSeats, queue_seats, seats_of_shared, sent_behind}
use Rattle.grid_run.specs.Banks.{tasks_of_banks}
use Rattle.grid_run.specs.Fronts.{FrontAt, front_rules}
use Rattle.grid_run.specs.Picking.{HasPicked, picked_by}
use Rattle.grid_run.specs.Seats.{SeatRules, rules_on}
use Rattle.grid_run.specs.declared.bank.Bank.{Bank}
use Rattle.grid_run.specs.declared.first_levels.FirstLevels.{FirstLevels}
use Rattle.grid_run.specs.declared.plan.LanePlan.{LanePlan}

-- what first-level caches do: their selection, the rules of the caches of both sides, and the
-- seats to which second levels listen
pub record FirstTask : Type 0 where
  pub selection : Selection
  pub i : SeatRules
  pub d : SeatRules
  pub seats : List SharedSeats

-- what these do
unfoldable pub first_task : FirstLevels → FirstTask
first_task f = record {
  selection = picked_by f.picker;
  i = map front_rules f.i.items;
  d = map front_rules f.d.items;
  seats = map queue_seats f.queues.items;
}

-- what those of this plan do in front of these banks
unfoldable pub first_of_plan : LanePlan → List Bank → FirstTask
first_of_plan p banks = record {
  selection = p.selection;
  i = map rules_on p.i.items;
  d = map rules_on p.d.items;
  seats = map seats_of_shared (tasks_of_banks banks);
}

-- the blocks that have numbers
abbrev pub numbered_by : FirstLevels → List ℕ
numbered_by f = blocks_in f.numbers

-- the requests that wait in the queues still have the numbers of their blocks, and so have those
-- that joined them; there may be more numbers
abbrev pub StaysNumberedIn : FirstLevels → FirstLevels → Type 0
StaysNumberedIn old new =
    QueuesStayNumbered (numbered_by old) old.queues.items (numbered_by new) new.queues.items

-- all queues are behind caches of these first levels
abbrev pub AreSeated : FirstTask → Type 0
AreSeated t = All (AreSeatedIn t.i t.d) t.seats

-- all that such caches send for what is selected of these records
abbrev pub sent_by : FirstTask → List DinRecord → RequestsFor
sent_by t records = sent_behind t.i t.d (events t.selection records)

-- the caches have served these events; what they sent for them is what the second levels were
-- given before, and then what waits
pub record HasServed (given : RequestsFor) (es : List DinRecord) (f : FirstLevels) : Type 0 where
  pub i : All (FrontAt (blocks_in f.numbers) (history side.I es)) f.i.items
  pub d : All (FrontAt (blocks_in f.numbers) (history side.D es)) f.d.items
  pub queues :
      All (AreWaiting given
      (sent_behind (map front_rules f.i.items) (map front_rules f.d.items) es)) f.queues.items

-- the caches were given these records: they have served what is selected of them
pub record WasGiven (given : RequestsFor) (records : List DinRecord) (f : FirstLevels)
    : Type 0 where
  pub seated : AreSeated (first_task f)
  pub picked : HasPicked records f.picker
  pub served : HasServed given (events (picked_by f.picker) records) f

-- behind all that the caches had been given, they were given these records
pub record WereGivenNext (records : List DinRecord) (old new : FirstLevels) : Type 0 where
  pub given : (given : RequestsFor) (past : List DinRecord) → WasGiven given past old
      → WasGiven given (past ++ records) new
  pub numbers : StaysNumberedIn old new
