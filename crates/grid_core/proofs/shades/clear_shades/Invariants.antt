use Rattle.grid_core.specs.Shades.{shade_rules}
use Rattle.grid_core.proofs.ListLoops.{HasChanged}
use Rattle.grid_core.proofs.LoopTurns.{ShadeClears}
use Rattle.grid_core.proofs.shades.clear_shades.Given as goal

-- the shadows that were passed are empty, and the others are as they were
abbrev pub invariant-loop-shade : goal.invariant-loop-shade
invariant-loop-shade l =
    HasChanged ShadeClears shade_rules l.initial.shade-items l.shade-index l.shade-items
