use Rattle.std.proofs.Common.{◌≡◌, take, map}
use Rattle.grid_core.specs.Cells.{items_of}
use Rattle.grid_core.specs.Places.{list_placed}
use Rattle.grid_core.proofs.places.lists_of.Given as goal

-- there is a list for each seat that was passed
abbrev pub invariant-loop-seat : goal.invariant-loop-seat
invariant-loop-seat l = map items_of l.lists.items
    ≡ map (λ s. list_placed (map items_of l.together.items) (map items_of l.apart.items) s.cell)
    (take l.seat-index l.seats.items)
