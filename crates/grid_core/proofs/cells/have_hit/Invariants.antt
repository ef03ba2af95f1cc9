use Rattle.std.proofs.Common.{◌≡◌, true, map, take}
use Rattle.std.specs.List.{All, AllWithin, list_all}
use Rattle.cache_core.specs.declared.access.Access.{Access}
use Rattle.cache_core.specs.History.{History}
use Rattle.grid_core.specs.Cells.{HitsIn, hit_at}
use Rattle.grid_core.specs.Standing.{HasMoved, found_in}
use Rattle.grid_core.proofs.cells.have_hit.Given as goal

-- the last access hit in each cache that was passed
abbrev pub invariant-loop-shape : goal.invariant-loop-shape
invariant-loop-shape l = record {
  all : list_all (hit_at (map found_in l.stacks)) (take l.shape-index l.shapes) ≡ true;
  hits : (h : History) (x : Access) → All (HasMoved h x) l.stacks →
      AllWithin (HitsIn h x) l.shapes 0 l.shape-index;
}
