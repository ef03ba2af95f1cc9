-- What is counted of each of many caches.
use Rattle.std.specs.Prelude.{ℕ, length, get_or}
use Rattle.stamped_cache.specs.declared.tallies.Tallies.{Tallies}
use Rattle.stamped_cache.specs.declared.tally.Tally.{Tally}
use Rattle.stamped_cache.specs.Counted.{no_tally}

-- what is counted of the cache of user q
unfoldable pub tally_of : Tallies → ℕ → Tally
tally_of t q = get_or t.tallies.items q no_tally

-- of how many caches it is counted
unfoldable pub tallies_in : Tallies → ℕ
tallies_in t = length t.tallies.items
