use Rattle.std.proofs.Common.{ℕ}
use Rattle.std.specs.List.{All}
use Rattle.cache_core.specs.History.{History}
use Rattle.grid_core.specs.Shapes.{HaveBsize}
use Rattle.grid_core.specs.Standing.{AreBehind, StackStandsFor, rules_of_rows, told_in}
use Rattle.grid_core.proofs.ListLoops.{HasChanged, both}
use Rattle.grid_core.proofs.LoopTurns.{RowServes}
use Rattle.grid_core.proofs.stacks.serve_rows.Given as goal

-- the rows that were passed have served the access, and the others are as they were
abbrev pub invariant-loop-stack : goal.invariant-loop-stack
invariant-loop-stack l = record {
  rows : HasChanged (RowServes l.access l.level l.least) (both rules_of_rows told_in)
      l.initial.stack-items l.stack-index l.stack-items;
  behind : (n : ℕ) (h : History) → HaveBsize n l.fn.stacks.items →
      All (λ s. StackStandsFor s h) l.fn.stacks.items → AreBehind l.behind n h l.access;
}
