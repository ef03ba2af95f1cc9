-- The fields of a configuration.
use Rattle.std.specs.Prelude.{◌≡◌, ℕ}
use Rattle.cache_core.specs.declared.geometry.Geometry.{Geometry}
use Rattle.cache_core.specs.declared.policy.Policy.{Policy}
use Rattle.cache_core.specs.Geometry.{IsMadeOf}
use Rattle.cache_core.specs.Standing.{rules_from}
use Rattle.stage_core.specs.SecondLevel.{Hierarchy}
use Rattle.stage_core.specs.declared.config.CacheName.{CacheName}
use Rattle.stage_core.specs.declared.config.CacheName.TheVariants as cache_name
use Rattle.stage_core.specs.declared.config.CacheSpec.{CacheSpec}
use Rattle.stage_core.specs.declared.config.Config.{Config}

-- the geometry of one of the caches
unfoldable pub geometry_in : Config → CacheName → Geometry
geometry_in c cache_name.I = c.i.0
geometry_in c cache_name.D = c.d.0
geometry_in c cache_name.U = c.u.0

-- the policy of one of the caches
unfoldable pub policy_in : Config → CacheName → Policy
policy_in c cache_name.I = c.i.1
policy_in c cache_name.D = c.d.1
policy_in c cache_name.U = c.u.1

-- the capacity of each ring, in messages
unfoldable pub ring_of : Config → ℕ
ring_of c = c.ring

-- this cache has the geometry and the policy that were asked for
pub record IsCacheOf (c : Config) (which : CacheName) (s : CacheSpec) : Type 0 where
  pub geometry : IsMadeOf (geometry_in c which) s.size s.bsize s.assoc
  pub policy : policy_in c which ≡ s.policy

-- the rules of the three caches
abbrev pub hierarchy_of : Config → Hierarchy
hierarchy_of c = record {
  i = rules_from (geometry_in c cache_name.I) (policy_in c cache_name.I);
  d = rules_from (geometry_in c cache_name.D) (policy_in c cache_name.D);
  u = rules_from (geometry_in c cache_name.U) (policy_in c cache_name.U);
}
