-- Where the caches of some geometries go.
use Rattle.std.specs.Prelude.{◌≡◌, ℕ, ◌<◌, [], List, length, get_or}
use Rattle.cache_core.specs.declared.geometry.Geometry.{Geometry}
use Rattle.cache_core.specs.declared.policy.Policy.{Policy}
use Rattle.cache_core.specs.Geometry.{bsize_of, blocks_of}
use Rattle.cache_core.specs.History.{Rules}
use Rattle.cache_core.specs.Kinds.{shadow_of}
use Rattle.cache_core.specs.Standing.{rules_from}
use Rattle.grid_core.specs.declared.shade.Shade.{Shade}
use Rattle.grid_core.specs.declared.single.Single.{Single}
use Rattle.grid_core.specs.Shades.{ShadeStandsFor, ShadeHasCounted}
use Rattle.grid_core.specs.Singles.{SingleStandsFor, HasSettled}
use Rattle.grid_core.specs.Written.{rules_at_index}

-- the geometry at the index has as many blocks, and they are as large
pub record IsAsLarge (gs : List Geometry) (g : Geometry) (index : ℕ) : Type 0 where
  pub inside : index < length gs
  pub same_bsize : (d : Geometry) → bsize_of (get_or gs index d) ≡ bsize_of g
  pub same_blocks : (d : Geometry) → blocks_of (get_or gs index d) ≡ blocks_of g

-- the cache at the index is the shadow of a cache of this geometry and policy
pub record IsShadowAt (rs : List Rules) (g : Geometry) (p : Policy) (index : ℕ) : Type 0 where
  pub inside : index < length rs
  pub shadow : rules_at_index rs index ≡ shadow_of (rules_from g p)

-- the cache was given nothing
pub record IsNewSingle (s : Single) : Type 0 where
  pub stands : SingleStandsFor [] s
  pub settled : HasSettled 0 s

-- the shadow was given nothing
pub record IsNewShade (s : Shade) : Type 0 where
  pub stands : ShadeStandsFor [] s
  pub counted : ShadeHasCounted 0 s
