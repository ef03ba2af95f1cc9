use Rattle.std.proofs.Common.{◌<◌, ℕ, get_or}
use Rattle.cache_core.specs.declared.cache.TheConstants.{MAX_EVENTS}
use Rattle.stamped_cache.specs.Counted.{no_tally}
use Rattle.stamped_cache.proofs.tallies.Tallies.have_room.Given as goal

-- of the caches that were passed, another event can be counted
abbrev pub invariant-loop-tally : goal.invariant-loop-tally
invariant-loop-tally l = (k : ℕ) → k < l.tally-index →
    (get_or l.tally-items k no_tally).served < MAX_EVENTS
