use Rattle.std.proofs.Common.{◌≡◌, ℕ, ◌<◌, Option, length, get_or, map}
use Rattle.std.specs.List.{All}
use Rattle.grid_run.specs.Lanes.{task_of_plan}
use Rattle.grid_run.specs.Rows.{IsSound, RowHasPlace}
use Rattle.grid_run.specs.declared.grid.Row.{Row}
use Rattle.grid_run.specs.declared.plan.Place.{Place}
use Rattle.grid_run.proofs.plan.plan_for.Given as goal

-- each row that was passed has its place
abbrev pub invariant-loop-index : goal.invariant-loop-index
invariant-loop-index l = record {
  as_many : length l.places.items ≡ l.index;
  each : (k : ℕ) (r : Row) (p : Option Place) → k < l.index →
      RowHasPlace (map task_of_plan l.lanes.items) (get_or l.rows k r).setup
      (get_or l.places.items k p);
  sound : All IsSound l.lanes.items;
}
