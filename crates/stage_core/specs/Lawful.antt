-- Which configurations are accepted, and which fault is answered for the others.
use Rattle.std.specs.Prelude.{ℕ, ◌||◌, if◌then◌else◌, nat_lt, List, [], ◌∷◌, Option, Some, None}
use Rattle.std.specs.Prelude.{option_map}
use Rattle.cache_core.specs.Lawful.{refusal_of as geometry_refused}
use Rattle.stage_core.specs.declared.config.CacheName.{CacheName}
use Rattle.stage_core.specs.declared.config.CacheName.TheVariants as cache_name
use Rattle.stage_core.specs.declared.config.CacheSpec.{CacheSpec}
use Rattle.stage_core.specs.declared.config.ConfigFault.{ConfigFault}
use Rattle.stage_core.specs.declared.config.ConfigFault.TheVariants as fault

-- the fault if the geometry of this cache is refused
unfoldable pub geometry_refusal : CacheName → CacheSpec → Option ConfigFault
geometry_refusal which s =
    option_map (λ why. fault.Geometry which why) (geometry_refused s.size s.bsize s.assoc)

-- the fault if the block of U is shorter than that of I or D
abbrev pub block_refusal : CacheSpec → CacheSpec → CacheSpec → Option ConfigFault
block_refusal i d u =
    if nat_lt u.bsize i.bsize || nat_lt u.bsize d.bsize then Some fault.BlockOrder else None

-- the fault if the capacity of the rings is not from 1 to 65,536
abbrev pub ring_refusal : ℕ → Option ConfigFault
ring_refusal ring = if nat_lt ring 1 || nat_lt 65536 ring then Some fault.Ring else None

-- the first fault of a list, if there is one
abbrev pub first_refusal : List (Option ConfigFault) → Option ConfigFault
first_refusal [] = None
first_refusal (None ∷ later) = first_refusal later
first_refusal (Some fault ∷ later) = Some fault

-- the first rule that a configuration breaks, if any
unfoldable pub refusal_of : CacheSpec → CacheSpec → CacheSpec → ℕ → Option ConfigFault
refusal_of i d u ring = first_refusal (
    geometry_refusal cache_name.I i
    ∷ geometry_refusal cache_name.D d
    ∷ geometry_refusal cache_name.U u
    ∷ block_refusal i d u
    ∷ ring_refusal ring
    ∷ [])
