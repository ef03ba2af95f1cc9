use Rattle.std.proofs.Common.{◌≤◌, length}
use Rattle.grid_core.proofs.stacks.least_staying.Given as goal

abbrev pub invariant-rising : goal.invariant-rising
invariant-rising l = record { inside : l.left ≤ length l.stacks }

-- fewer rows are left
abbrev pub decreases-rising : goal.decreases-rising
decreases-rising l = l.left
