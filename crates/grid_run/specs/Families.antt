-- Caches that are served together.
use Rattle.std.specs.Prelude.{◌<◌, ◌^◌, ℕ, List, length}
use Rattle.cache_core.specs.History.{History, Rules}
use Rattle.cache_core.specs.declared.access.Access.{Access}
use Rattle.cache_core.specs.Geometry.{bsize_of}
use Rattle.grid_core.specs.Engines.{EngineHasAnswered, EngineStandsBy, engine_rules}
use Rattle.grid_run.specs.declared.family.Family.{Family}

-- the rules of the caches
unfoldable pub family_rules : Family → List Rules
family_rules l = engine_rules l.engine

-- how many bytes their blocks have
unfoldable pub bsize_on : Family → ℕ
bsize_on l = bsize_of l.first

-- the caches have served this history, by the numbers that the places of a list of blocks are
pub record FamilyStandsBy (blocks : List ℕ) (l : Family) (h : History) : Type 0 where
  pub engine : EngineStandsBy blocks l.engine h

-- the last access of the caches was x, after the history h
pub record HasServedLast (l : Family) (h : History) (x : Access) : Type 0 where
  pub engine : EngineHasAnswered l.engine h x

-- the caches have room for one more request
pub record CanServe (l : Family) : Type 0 where
  pub blocks : List ℕ
  pub past : History
  pub stands : FamilyStandsBy blocks l past
  pub short : length past < 2 ^ 44
