use Rattle.std.proofs.Common.{◌≡◌, map, replicate}
use Rattle.cache_core.specs.Counts.{none_by_class}
use Rattle.grid_core.specs.Totals.{listed_counts}
use Rattle.grid_core.proofs.histogram.tables.Given as goal

-- there are as many tables as turns were taken
abbrev pub invariant-loop : goal.invariant-loop
invariant-loop l = map listed_counts l.tables.items
    ≡ replicate l.counter (replicate l.levels none_by_class)
