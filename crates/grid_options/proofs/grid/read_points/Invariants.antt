use Rattle.std.proofs.Common.{take}
use Rattle.std.specs.List.{AllZip}
use Rattle.grid_options.specs.Grid.{IsPoint}
use Rattle.grid_options.specs.Points.{texts_of_points}
use Rattle.grid_options.proofs.grid.read_points.Given as goal

abbrev pub invariant-loop-texts : goal.invariant-loop-texts
invariant-loop-texts l = AllZip (IsPoint l.full l.shown)
    (texts_of_points (take l.texts-index l.points)) l.read.items
