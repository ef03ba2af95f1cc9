use Rattle.std.specs.List.{All}
use Rattle.grid_run.specs.Grids.{IsBoundedRow}
use Rattle.grid_run_tests.proofs.tests.beside.grid_of.Given as goal

-- the rows so far have bounded selections
abbrev pub invariant-loop-specs : goal.invariant-loop-specs
invariant-loop-specs l = record { rows : All IsBoundedRow l.rows.items }
