use Rattle.std.proofs.Common.{◌≡◌, ◌++◌, ◌∷◌, [], map, take}
use Rattle.grid_options.specs.Points.{texts_of_points}
use Rattle.grid_options.proofs.product.add_points.Given as goal

abbrev pub invariant-loop-value : goal.invariant-loop-value
invariant-loop-value l = texts_of_points l.points.items
    ≡ texts_of_points l.initial.points.items
    ++ map (λ v. map (λ t. t.now) l.point ++ v ∷ [])
    (map (λ t. t.now) (take l.value-index l.values))
