use Rattle.std.specs.List.{AllWithin}
use Rattle.grid_run.specs.Fronts.{IsSilent}
use Rattle.grid_run.proofs.fronts.are_silent.Given as goal

-- those that were passed are silent
abbrev pub invariant-loop-front : goal.invariant-loop-front
invariant-loop-front l = AllWithin IsSilent l.fronts 0 l.front-index
