use Rattle.std.proofs.Common.{◌≡◌, ◌++◌, map, take, drop}
use Rattle.cache_core.specs.Mapped.{emptied}
use Rattle.cache_core.proofs.maps.clear_maps.Given as goal

abbrev pub invariant-loop-map : goal.invariant-loop-map
invariant-loop-map l = take l.map-index l.maps ++ map emptied (drop l.map-index l.maps)
    ≡ map emptied l.initial.maps
