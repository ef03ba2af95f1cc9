-- How an engine relates to its history.
use Rattle.std.specs.Prelude.{◌≡◌, ℕ, Bool, false, List, length, map}
use Rattle.cache_core.specs.declared.access.Access.{Access}
use Rattle.cache_core.specs.declared.counts.Counts.{Counts}
use Rattle.cache_core.specs.declared.counts.PerClass.{PerClass}
use Rattle.cache_core.specs.Geometry.{bsize_of}
use Rattle.cache_core.specs.History.{History, Rules}
use Rattle.cache_core.specs.Standing.{rules_from}
use Rattle.cache_core.specs.Lists.{IsBeginning}
use Rattle.grid_core.specs.declared.engine.Engine.{Engine}
use Rattle.grid_core.specs.Caches.{CachesStandBy, HaveAnswered, counts_in, misses_in}
use Rattle.grid_core.specs.Numbered.{blocks_in}

-- the rules of the caches
unfoldable pub engine_rules : Engine → List Rules
engine_rules e = map (λ s. rules_from s.geometry e.policy) e.seats.items

-- how many accesses and flushes were served
unfoldable pub engine_served : Engine → ℕ
engine_served e = e.served

-- what each cache counted
unfoldable pub engine_counts : Engine → List Counts
engine_counts e = map (λ s. counts_in e.caches s.cell) e.seats.items

-- the misses of the shadow of each cache
unfoldable pub engine_shadow_misses : Engine → List PerClass
engine_shadow_misses e = map (λ s. misses_in e.caches s.shadow) e.seats.items

-- whether an allocation failed
unfoldable pub engine_has_failed : Engine → Bool
engine_has_failed e = e.failed

-- how many bytes a block has
unfoldable pub bsize_in : Engine → ℕ
bsize_in e = bsize_of e.first

-- the blocks that have numbers: the number of each is its place
unfoldable pub numbered_in : Engine → List ℕ
numbered_in e = blocks_in e.numbers

-- the engine stands for the history by the numbers that the places of a list of blocks are: it has
-- not failed, and its state is what the history gives
pub record EngineStandsBy (blocks : List ℕ) (e : Engine) (h : History) : Type 0 where
  pub working : engine_has_failed e ≡ false
  pub served : engine_served e ≡ length h
  pub caches : CachesStandBy blocks h e.caches

-- the engine has counted what it had before, and served as many accesses and flushes
abbrev pub EngineKeepsCounts : Engine → Engine → Type 0
EngineKeepsCounts new old = (engine_counts new ≡ engine_counts old)
    × (engine_shadow_misses new ≡ engine_shadow_misses old)
    × (engine_served new ≡ engine_served old)

-- the engine stands for the history by its own numbers
abbrev pub EngineStandsFor : Engine → History → Type 0
EngineStandsFor e = EngineStandsBy (numbered_in e) e

-- the last access was x, after the history h
pub record EngineHasAnswered (e : Engine) (h : History) (x : Access) : Type 0 where
  pub answers : HaveAnswered h x e.caches

-- an engine that stands for a history by some numbers does so by more of them
abbrev pub MoreNumbersServeEngines : Type 0
MoreNumbersServeEngines = (blocks more : List ℕ) (e : Engine) (h : History) →
    IsBeginning blocks more → EngineStandsBy blocks e h → EngineStandsBy more e h
