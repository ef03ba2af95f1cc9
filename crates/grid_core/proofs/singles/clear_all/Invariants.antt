use Rattle.grid_core.specs.Singles.{single_shading}
use Rattle.grid_core.proofs.ListLoops.{HasChanged}
use Rattle.grid_core.proofs.LoopTurns.{SingleClears}
use Rattle.grid_core.proofs.singles.clear_all.Given as goal

-- the caches that were passed are empty and have counted, and the others are as they were
abbrev pub invariant-loop-index : goal.invariant-loop-index
invariant-loop-index l =
    HasChanged (SingleClears l.lists.items l.fn.singles.items) single_shading
    l.initial.single-items l.index l.single-items
