use Rattle.std.proofs.Common.{◌≡◌, ◌<◌, ◌≤◌, ◌++◌, ℕ, map, take, drop, get_or}
use Rattle.stamped_cache.specs.declared.tally.Tally.{Tally}
use Rattle.stamped_cache.specs.Counted.{IsTally, flushed_tally}
use Rattle.stamped_cache.proofs.tallies.flush_each.Given as goal

-- the tallies that were passed count a flush more, and the others are as they were
abbrev pub invariant-loop-tally : goal.invariant-loop-tally
invariant-loop-tally l = record {
  moved : take l.tally-index l.tally-items
      ++ map (flushed_tally l.wback) (drop l.tally-index l.tally-items)
      ≡ map (flushed_tally l.wback) l.initial.tally-items;
  left : (k : ℕ) (d : Tally) → l.tally-index ≤ k →
      get_or l.tally-items k d ≡ get_or l.initial.tally-items k d;
  within : (k : ℕ) (d : Tally) → k < l.tally-index → IsTally (get_or l.tally-items k d);
}
