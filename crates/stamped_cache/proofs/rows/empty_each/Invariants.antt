use Rattle.std.proofs.Common.{◌≡◌, ◌++◌, drop, replicate}
use Rattle.stamped_cache.proofs.rows.empty_each.Given as goal

-- the counts that were passed are zero
abbrev pub invariant-loop-count : goal.invariant-loop-count
invariant-loop-count l =
    l.count-items ≡ replicate l.count-index 0 ++ drop l.count-index l.initial.count-items
