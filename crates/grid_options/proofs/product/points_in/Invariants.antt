use Rattle.std.proofs.Common.{◌≡◌, ◌≤◌, length, take}
use Rattle.clap.specs.Words.{found_of, rows_of}
use Rattle.dinero_options.specs.Options.{options}
use Rattle.grid_options.specs.Grid.{product, values_of}
use Rattle.grid_options.specs.Points.{texts_of_points}
use Rattle.grid_options.proofs.product.points_in.Given as goal

abbrev pub invariant-loop-option : goal.invariant-loop-option
invariant-loop-option l = let rows = rows_of (found_of l.matches) in
    (texts_of_points l.points.items
    ≡ product (values_of rows) (take l.option-index options))
    × (1 ≤ length l.points.items) × (length l.points.items ≤ 4096)
