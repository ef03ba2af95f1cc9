use Rattle.std.proofs.Common.{◌≡◌, ◌+◌, length, map, take}
use Rattle.std.specs.List.{All}
use Rattle.grid_core.specs.Standing.{IsEmptyStack, stack_rules}
use Rattle.cache_core.specs.Geometry.{bsize_of}
use Rattle.grid_core.specs.Shapes.{HaveBsize, IsSuitedShape}
use Rattle.grid_core.specs.Cells.{shape_rules}
use Rattle.grid_core.specs.State.{IsRanked}
use Rattle.grid_core.proofs.parts.parts_for.Given as goal

-- there is a shape for each geometry that was passed
abbrev pub invariant-loop-geometry : goal.invariant-loop-geometry
invariant-loop-geometry l = record {
  rules : map shape_rules l.shapes.items
      ≡ map (λ g. stack_rules g l.wback) (take l.geometry-index l.geometries);
  ranked : All (IsRanked l.sizes l.fn.first) l.shapes.items;
  suited : All (IsSuitedShape l.stacks.items) l.shapes.items;
  one_policy : All (λ s. s.wback ≡ l.wback) l.shapes.items;
  one_size : HaveBsize (bsize_of l.fn.first) l.stacks.items;
  empty : All (IsEmptyStack (length l.sizes + 1)) l.stacks.items;
}
