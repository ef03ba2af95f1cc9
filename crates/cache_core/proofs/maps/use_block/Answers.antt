use Rattle.std.proofs.Common.{sym, ap}
use Rattle.lru.specs.LruCache.{lru_cache}
use Rattle.cache_core.proofs.MapStep.{used-there, used-absent}
use Rattle.cache_core.proofs.maps.use_block.Goals as goal

pub returns-in-Some-clause-map : goal.returns-in-Some-clause-map
returns-in-Some-clause-map c =
    ap (λ l. lru_cache l c.args.map.now.cap)
    (used-there c.args.block_addr c.args.wback c.args.write c.args.map.now.entries
    c.in-Some.dirty.now
    c.mark_of.result (sym c.in-Some.ensures.value) c.mark_of.ensures)

pub returns-clause-map : goal.returns-clause-map
returns-clause-map c = ap (λ l. lru_cache l c.args.map.now.cap)
    (sym (used-absent c.args.block_addr c.args.wback c.args.write c.args.map.now.entries
    (sym c.in_default.ensures.value)))
