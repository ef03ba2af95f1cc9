use Rattle.grid_core.specs.Shades.{shade_rules}
use Rattle.grid_core.proofs.ListLoops.{HasChanged}
use Rattle.grid_core.proofs.LoopTurns.{ShadeSettles}
use Rattle.grid_core.proofs.shades.settle_shades.Given as goal

-- the shadows that were passed have counted, and the others are as they were
abbrev pub invariant-loop-shade : goal.invariant-loop-shade
invariant-loop-shade l =
    HasChanged (ShadeSettles l.access) shade_rules l.initial.shade-items l.shade-index l.shade-items
