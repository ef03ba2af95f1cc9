use Rattle.std.specs.List.{All}
use Rattle.grid_run.specs.Rows.{IsSound}
use Rattle.grid_run.proofs.plan.plan_in_order.Given as goal

-- the lanes are sound after the rows that were passed, if they were before
abbrev pub invariant-loop-row : goal.invariant-loop-row
invariant-loop-row l = record {
  sound : All IsSound l.initial.lanes.items → All IsSound l.lanes.items;
}
