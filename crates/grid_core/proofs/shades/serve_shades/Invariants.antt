use Rattle.grid_core.specs.Shades.{shade_rules, shade_misses}
use Rattle.grid_core.proofs.ListLoops.{HasChanged, both}
use Rattle.grid_core.proofs.LoopTurns.{ShadeServes}
use Rattle.grid_core.proofs.shades.serve_shades.Given as goal

-- the shadows that were passed have served the access, and the others are as they were
abbrev pub invariant-loop-shade : goal.invariant-loop-shade
invariant-loop-shade l =
    HasChanged (ShadeServes l.access) (both shade_rules shade_misses)
    l.initial.shade-items l.shade-index l.shade-items
