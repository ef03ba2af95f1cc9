-- How each of many caches relates to its history.
use Rattle.std.specs.Prelude.{◌≡◌, ℕ, ◌<◌, ◌==◌, Bool, true, false, List, map, length}
use Rattle.std.specs.List.{list_any}
use Rattle.cache_core.specs.declared.counts.Counts.{Counts}
use Rattle.cache_core.specs.declared.counts.PerClass.{PerClass}
use Rattle.cache_core.specs.History.{History, Rules}
use Rattle.cache_core.specs.Counts.{counts_of, tally}
use Rattle.cache_core.specs.Kinds.{referenced_blocks}
use Rattle.cache_core.specs.Lists.{IsBeginning}
use Rattle.cache_core.specs.Residents.{distinct, renewals}
use Rattle.shared_list.specs.Shared.{order_by, was_used_by}
use Rattle.grid_core.specs.FullyAssociative.{shadow_misses}
use Rattle.grid_core.specs.Numbers.{number_at}
use Rattle.grid_core.specs.Shadows.{number_by, was_number_used}
use Rattle.grid_core.specs.Standing.{stack_rules}
use Rattle.grid_core.specs.WriteBacks.{is_first_write}
use Rattle.stamped_cache.specs.declared.caches.StampedCaches.{StampedCaches}
use Rattle.stamped_cache.specs.Tallies.{tally_of}
use Rattle.stamped_cache.specs.Holding.{HoldBy}
use Rattle.stamped_cache.specs.Rows.{rows_of}
use Rattle.stamped_cache.specs.States.{states_of}

-- the rules that the caches follow
unfoldable pub stamped_rules : StampedCaches → Rules
stamped_rules c = stack_rules c.geometry c.wback

-- how many caches there are
unfoldable pub stamped_users : StampedCaches → ℕ
stamped_users c = c.users

-- how many accesses and flushes of the cache of user q succeeded
unfoldable pub stamped_served : StampedCaches → ℕ → ℕ
stamped_served c q = (tally_of c.tallies q).served

-- the counts that the cache of user q keeps
unfoldable pub stamped_counts : StampedCaches → ℕ → Counts
stamped_counts c q = (tally_of c.tallies q).counts

-- the misses of its shadow
unfoldable pub stamped_shadow_misses : StampedCaches → ℕ → PerClass
stamped_shadow_misses c q = (tally_of c.tallies q).far

-- whether an allocation failed
unfoldable pub stamped_has_failed : StampedCaches → Bool
stamped_has_failed c = c.failed

-- the cache of user q stands for the history by the numbers that the places of a list of blocks
-- are: no allocation failed, and its state is what the history gives
pub record StampedStandsBy (blocks : List ℕ) (c : StampedCaches) (q : ℕ) (h : History) : Type 0
  where
    pub working : stamped_has_failed c ≡ false
    pub served : stamped_served c q ≡ length h
    -- the blocks used since the last flush, the latest first
    pub order : order_by c.list q ≡ map (number_by blocks) (distinct (renewals (stamped_rules c) h))
    -- the blocks that were ever accessed
    pub known : (b : ℕ) → was_number_used (was_used_by c.list q) (number_at blocks b)
        ≡ list_any (λ t. t == b) (referenced_blocks (stamped_rules c) h)
    pub numbered : (n : ℕ) → was_used_by c.list q n ≡ true → n < length blocks
    pub holds : HoldBy blocks (stamped_rules c) h (states_of c.states q) (rows_of c.rows c.users q)
    pub counts : stamped_counts c q ≡ counts_of (stamped_rules c) h
    pub far : stamped_shadow_misses c q ≡ shadow_misses (stamped_rules c) h
    pub first_writes : (stamped_rules c).wback ≡ true →
        (tally_of c.tallies q).first_writes ≡ tally (is_first_write (stamped_rules c)) h

-- caches of which one stands for a history by some numbers do so by more of them
abbrev pub MoreNumbersServeStampedCaches : Type 0
MoreNumbersServeStampedCaches = (blocks more : List ℕ) (c : StampedCaches) (q : ℕ) (h : History) →
    IsBeginning blocks more → StampedStandsBy blocks c q h → StampedStandsBy more c q h
