use Rattle.std.specs.List.{All}
use Rattle.cache_core.specs.Geometry.{bsize_of}
use Rattle.grid_core.specs.Shapes.{HaveBsize}
use Rattle.grid_core.specs.Standing.{IsEmptyStack}
use Rattle.grid_core.proofs.parts.rows_for.Given as goal

-- the rows of the geometries that were passed are empty
abbrev pub invariant-loop-geometry : goal.invariant-loop-geometry
invariant-loop-geometry l = record {
  one_size : HaveBsize (bsize_of l.fn.first) l.stacks.items;
  empty : All (IsEmptyStack l.levels) l.stacks.items;
}
