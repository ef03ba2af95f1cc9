use Rattle.grid_core.specs.Singles.{single_shading}
use Rattle.grid_core.proofs.ListLoops.{HasChanged}
use Rattle.grid_core.proofs.LoopTurns.{SingleSettles}
use Rattle.grid_core.proofs.singles.settle_all.Given as goal

-- the caches that were passed have counted, and the others are as they were
abbrev pub invariant-loop-single : goal.invariant-loop-single
invariant-loop-single l =
    HasChanged (SingleSettles l.access l.stacked l.shades.items) single_shading
    l.initial.single-items l.single-index l.single-items
