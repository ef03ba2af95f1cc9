use Rattle.std.proofs.Common.{◌≡◌, map}
use Rattle.grid_core.specs.Totals.{added, listed_counts, past}
use Rattle.grid_core.proofs.histogram.sum_past.Given as goal

-- the sum so far, and what is left
abbrev pub invariant-loop-place : goal.invariant-loop-place
invariant-loop-place l = added l.sum (past l.place l.level (map listed_counts l.tables))
    ≡ past l.distance l.level (map listed_counts l.tables)
