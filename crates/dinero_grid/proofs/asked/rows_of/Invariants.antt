use Rattle.std.specs.List.{All, AllZip}
use Rattle.grid_run.specs.Grids.{IsBoundedRow}
use Rattle.dinero_grid.specs.AskedRows.{IsRowOf}
use Rattle.dinero_grid.proofs.asked.rows_of.Given as goal

abbrev pub invariant-loop-point : goal.invariant-loop-point
invariant-loop-point l =
    AllZip IsRowOf l.yielded l.rows.items × All IsBoundedRow l.rows.items
