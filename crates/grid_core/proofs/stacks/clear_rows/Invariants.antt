use Rattle.grid_core.specs.Standing.{rules_of_rows, told_in}
use Rattle.grid_core.proofs.ListLoops.{HasChanged, both}
use Rattle.grid_core.proofs.LoopTurns.{RowClears}
use Rattle.grid_core.proofs.stacks.clear_rows.Given as goal

-- the rows that were passed are empty, and the others are as they were
abbrev pub invariant-loop-stack : goal.invariant-loop-stack
invariant-loop-stack l =
    HasChanged RowClears (both rules_of_rows told_in)
    l.initial.stack-items l.stack-index l.stack-items
