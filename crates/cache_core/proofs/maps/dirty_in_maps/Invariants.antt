use Rattle.std.proofs.Common.{◌≡◌, ◌++◌, drop, map, filter}
use Rattle.cache_core.specs.Row.{is_dirty_way, block_addr_of}
use Rattle.cache_core.specs.Mapped.{flat}
use Rattle.cache_core.proofs.maps.dirty_in_maps.Given as goal

abbrev pub invariant-loop-set : goal.invariant-loop-set
invariant-loop-set l =
    l.block_addrs.items
    ++ map block_addr_of (filter is_dirty_way (flat l.assoc (drop l.set-index l.sets)))
    ≡ map block_addr_of (filter is_dirty_way (flat l.assoc l.sets))
