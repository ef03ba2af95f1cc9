use Rattle.std.proofs.Common.{◌≡◌, take, length, map}
use Rattle.std.specs.List.{All}
use Rattle.cache_core.specs.History.{History}
use Rattle.grid_core.specs.Standing.{StackStandsFor}
use Rattle.grid_core.specs.Cells.{dirty_bytes_of, items_of}
use Rattle.grid_core.proofs.cells.dirty_lists.Given as goal

-- there is a list for each shape that was passed
abbrev pub invariant-loop-shape : goal.invariant-loop-shape
invariant-loop-shape l = record {
  lists : (h : History) → All (λ s. StackStandsFor s h) l.stacks.items →
      map items_of l.lists.items ≡ map (dirty_bytes_of h) (take l.shape-index l.shapes.items);
  len : length l.lists.items ≡ l.shape-index;
}
