use Rattle.std.proofs.Common.{◌≡◌, drop}
use Rattle.grid_core.specs.Totals.{added, total}
use Rattle.grid_core.proofs.sums.sum_of.Given as goal

-- the sum so far, and what is left
abbrev pub invariant-loop-one : goal.invariant-loop-one
invariant-loop-one l = added l.sum (total (drop l.one-index l.counts)) ≡ total l.counts
