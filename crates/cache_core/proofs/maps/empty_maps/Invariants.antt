use Rattle.std.proofs.Common.{◌≡◌, [], replicate}
use Rattle.std.specs.NonZero.{non_zero_usize_get}
use Rattle.lru.specs.LruCache.{lru_cache}
use Rattle.cache_core.proofs.maps.empty_maps.Given as goal

abbrev pub invariant-loop : goal.invariant-loop
invariant-loop l = l.maps.items ≡ replicate l.counter (lru_cache [] (non_zero_usize_get l.assoc))
