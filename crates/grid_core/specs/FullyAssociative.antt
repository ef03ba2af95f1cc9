-- How often the shadow of a cache misses.
use Rattle.cache_core.specs.declared.counts.PerClass.{PerClass}
use Rattle.cache_core.specs.History.{History, Rules}
use Rattle.cache_core.specs.Kinds.{shadow_of}
use Rattle.cache_core.specs.Counts.{counts_of}

-- the fully associative misses of a cache, by class: those of its shadow, the fully associative LRU
-- cache of the same size and write allocation, over the same history
unfoldable pub shadow_misses : Rules → History → PerClass
shadow_misses r h = (counts_of (shadow_of r) h).misses
