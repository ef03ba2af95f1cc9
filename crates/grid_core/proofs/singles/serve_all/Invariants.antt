use Rattle.grid_core.specs.Singles.{single_counts, single_shading}
use Rattle.grid_core.proofs.ListLoops.{HasChanged, both}
use Rattle.grid_core.proofs.LoopTurns.{SingleServes}
use Rattle.grid_core.proofs.singles.serve_all.Given as goal

-- the caches that were passed have served the access, and the others are as they were
abbrev pub invariant-loop-single : goal.invariant-loop-single
invariant-loop-single l =
    HasChanged (SingleServes l.access) (both single_shading single_counts)
    l.initial.single-items l.single-index l.single-items
