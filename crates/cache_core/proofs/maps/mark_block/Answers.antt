use Rattle.std.proofs.Common.{true, sym, ap}
use Rattle.lru.specs.LruCache.{lru_cache}
use Rattle.cache_core.proofs.MapStep.{marked-absent}
use Rattle.cache_core.proofs.maps.mark_block.Goals as goal

pub returns-clause-map : goal.returns-clause-map
returns-clause-map c = ap (λ l. lru_cache l c.args.map.now.cap)
    (sym (marked-absent c.args.block_addr true true c.args.map.now.entries
    (sym c.in_default.ensures.value)))
