-- Histograms of stack distances: how often accesses found their blocks where (Mattson and others,
-- 1970), and how often writes found them not dirty (Thompson and Smith, 1989).
use Rattle.std.specs.Prelude.{◌≡◌, ℕ, ◌<◌, Bool, false, not, ◌&&◌, nat_lt, List, map, drop}
use Rattle.cache_core.specs.declared.access.Access.{Access}
use Rattle.cache_core.specs.declared.counts.PerClass.{PerClass}
use Rattle.cache_core.specs.History.{History, Rules, block_of, is_write}
use Rattle.cache_core.specs.Residents.{distinct, renewals}
use Rattle.cache_core.specs.Counts.{by_class}
use Rattle.cache_core.specs.Counting.{IsWithin}
use Rattle.marked_list.specs.Recency.{level_of}
use Rattle.grid_core.specs.declared.histogram.Histogram.{Histogram}
use Rattle.grid_core.specs.Levels.{dirty_level}
use Rattle.grid_core.specs.Slots.{level_after}
use Rattle.grid_core.specs.Totals.{listed_counts, past, total}
use Rattle.grid_core.specs.Ways.{stack_distance}

-- the accesses of a histogram from distance n and from level k on
abbrev pub past_in : Histogram → ℕ → ℕ → PerClass
past_in t n k = past n k (map listed_counts t.distances.items)

-- the writes of a histogram that found their blocks not dirty in n ways
abbrev pub first_in : Histogram → ℕ → PerClass
first_in t n = total (drop n t.first_writes.items)

-- how many levels a histogram tells apart
abbrev pub histogram_levels : Histogram → ℕ
histogram_levels t = t.levels

-- the greatest distance of a histogram
abbrev pub histogram_ways : Histogram → ℕ
histogram_ways t = t.ways

-- no count of the histogram is above n
abbrev pub IsWithinHistogram : ℕ → Histogram → Type 0
IsWithinHistogram n t = IsWithin (past_in t 0 0) n × IsWithin (first_in t 0) n

module _ (r : Rules) where
  -- the number of ways up to which block b is not dirty: where it is not resident, or clean
  abbrev pub clean_ways : History → ℕ → ℕ
  clean_ways g b = level_after false (dirty_level r g b) (stack_distance r g b)

  -- the access x is a write that finds its block not dirty in n ways
  abbrev pub writes_first : ℕ → History → Access → Bool
  writes_first n g x = is_write x && not (nat_lt (clean_ways g (block_of r x)) n)

  module _ (sizes : List ℕ) where
    -- the level of the block of x in fully associative LRU caches of these sizes: the index of the
    -- first that has it, or the number of sizes
    abbrev pub level_at : History → Access → ℕ
    level_at g x = level_of sizes (distinct (renewals r g)) (block_of r x)

    -- the access x misses in n ways, and in the first k of the fully associative caches
    abbrev pub misses_past : ℕ → ℕ → History → Access → Bool
    misses_past n k g x = not (nat_lt (stack_distance r g (block_of r x)) n)
        && not (nat_lt (level_at g x) k)

    -- the histogram has counted the accesses of the history
    pub record HasCounted (h : History) (t : Histogram) : Type 0 where
      pub missed : (n k : ℕ) → 0 < n → past_in t n k ≡ by_class (misses_past n k) h
      pub first : (n : ℕ) → 0 < n → first_in t n ≡ by_class (writes_first n) h
