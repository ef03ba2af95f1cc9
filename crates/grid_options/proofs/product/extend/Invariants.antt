use Rattle.std.proofs.Common.{◌≡◌, map, take}
use Rattle.grid_options.specs.Grid.{extended}
use Rattle.grid_options.specs.Points.{texts_of_points}
use Rattle.grid_options.proofs.product.extend.Given as goal

abbrev pub invariant-loop-point : goal.invariant-loop-point
invariant-loop-point l = texts_of_points l.made.items
    ≡ extended (texts_of_points (take l.point-index l.points))
    (map (λ t. t.now) l.values)
