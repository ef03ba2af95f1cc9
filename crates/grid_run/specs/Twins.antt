-- LRU caches of one geometry, one for each user.
use Rattle.std.specs.Prelude.{ℕ, List}
use Rattle.cache_core.specs.History.{History, Rules}
use Rattle.stamped_cache.specs.Stamped.{StampedStandsBy, stamped_rules, stamped_users}
use Rattle.grid_run.specs.declared.twins.Twins.{Twins}

-- how many users there are
unfoldable pub twin_users : Twins → ℕ
twin_users l = stamped_users l.caches

-- the rules of each cache
unfoldable pub twin_rules : Twins → Rules
twin_rules l = stamped_rules l.caches

-- the cache of user q has served this history, by the numbers that the places of a list of blocks
-- are
pub record TwinStandsBy (blocks : List ℕ) (l : Twins) (q : ℕ) (h : History) : Type 0 where
  pub cache : StampedStandsBy blocks l.caches q h
