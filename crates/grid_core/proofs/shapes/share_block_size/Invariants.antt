use Rattle.std.proofs.Common.{◌≡◌}
use Rattle.std.specs.List.{AllWithin}
use Rattle.cache_core.specs.Geometry.{bsize_of}
use Rattle.grid_core.proofs.shapes.share_block_size.Given as goal

abbrev pub invariant-loop-geometry : goal.invariant-loop-geometry
invariant-loop-geometry l =
    AllWithin (λ g. bsize_of g ≡ bsize_of l.first) l.geometries 0 l.geometry-index
