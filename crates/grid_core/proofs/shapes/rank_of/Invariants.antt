use Rattle.std.proofs.Common.{◌≡◌, ◌==◌, ◌+◌, drop}
use Rattle.marked_list.specs.Recency.{index_of}
use Rattle.grid_core.proofs.shapes.rank_of.Given as goal

abbrev pub invariant-loop-index : goal.invariant-loop-index
invariant-loop-index l = l.index + index_of (λ m. m == l.size) (drop l.index l.sizes)
    ≡ index_of (λ m. m == l.size) l.sizes
