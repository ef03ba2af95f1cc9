-- The caches of an engine, and what each counts.
use Rattle.std.specs.Prelude.{◌≡◌, ℕ, ◌≤◌, false, List, length, map, get_or}
use Rattle.std.specs.List.{All}
use Rattle.cache_core.specs.declared.access.Access.{Access}
use Rattle.cache_core.specs.declared.counts.Counts.{Counts}
use Rattle.cache_core.specs.declared.counts.PerClass.{PerClass}
use Rattle.cache_core.specs.History.{History, Rules}
use Rattle.cache_core.specs.Counts.{no_counts, none_by_class}
use Rattle.grid_core.specs.declared.caches.Caches.{Caches}
use Rattle.grid_core.specs.declared.places.Place.{Place}
use Rattle.grid_core.specs.declared.places.Place.TheVariants.{Together, Apart}
use Rattle.grid_core.specs.StackedCells.{stacked_counts, stacked_rules, stacked_served}
use Rattle.grid_core.specs.StackedCells.{stacked_shadow_misses}
use Rattle.grid_core.specs.Singles.{single_rules, single_counts, SingleStandsFor}
use Rattle.grid_core.specs.Singles.{SingleHasAnswered}
use Rattle.grid_core.specs.Shades.{ShadeStandsFor, shade_rules, shade_misses}
use Rattle.grid_core.specs.Shading.{FollowsStacked, StackedFollowed}
use Rattle.grid_core.specs.Places.{IsPlace}

-- the rules of the caches that are served together
abbrev pub together_rules : Caches → List Rules
together_rules c = stacked_rules c.stacked

-- the rules of the caches of their own
abbrev pub apart_rules : Caches → List Rules
apart_rules c = map single_rules c.singles.items

-- the rules of the shadows of caches of their own, where writes do not allocate
abbrev pub shades_rules : Caches → List Rules
shades_rules c = map shade_rules c.shades.items

-- the caches have this place
abbrev pub HasCacheAt : Caches → Place → Type 0
HasCacheAt c p = IsPlace (length (together_rules c)) (length (apart_rules c)) p

-- the caches have a shadow at this place
abbrev pub HasShadowAt : Caches → Place → Type 0
HasShadowAt c p = IsPlace (length (together_rules c)) (length (shades_rules c)) p

-- the counts at a place
abbrev pub counts_in : Caches → Place → Counts
counts_in c (Together i) = get_or (stacked_counts c.stacked) i no_counts
counts_in c (Apart i) = get_or (map single_counts c.singles.items) i no_counts

-- the misses of the shadow at a place
abbrev pub misses_in : Caches → Place → PerClass
misses_in c (Together i) = get_or (stacked_shadow_misses c.stacked) i none_by_class
misses_in c (Apart i) = get_or (map shade_misses c.shades.items) i none_by_class

-- each cache stands for the history, by the numbers that the places of a list of blocks are
pub record CachesStandBy (blocks : List ℕ) (h : History) (c : Caches) : Type 0 where
  pub stacked : FollowsStacked blocks h c.stacked
  pub shades : All (ShadeStandsFor h) c.shades.items
  pub singles : All (SingleStandsFor h) c.singles.items

-- the last access of each cache was x, after the history h
pub record HaveAnswered (h : History) (x : Access) (c : Caches) : Type 0 where
  pub stacked : StackedFollowed h x c.stacked
  pub singles : All (SingleHasAnswered h x) c.singles.items

-- those served together have served n events at most, and each other has counted n and served no
-- more
pub record AreInStep (n : ℕ) (c : Caches) : Type 0 where
  pub stacked : stacked_served c.stacked ≤ n
  pub shades : All (λ s. s.counted ≡ n) c.shades.items
  pub singles : All (λ s. (s.settled ≡ n) × (s.pending ≡ false)) c.singles.items

-- the caches have the same rules
pub record HaveSameRules (c d : Caches) : Type 0 where
  pub together : together_rules c ≡ together_rules d
  pub apart : apart_rules c ≡ apart_rules d
  pub shades : shades_rules c ≡ shades_rules d

-- the caches have the same counts
pub record HaveSameCounts (c d : Caches) : Type 0 where
  pub together : stacked_counts c.stacked ≡ stacked_counts d.stacked
  pub together_shadows : stacked_shadow_misses c.stacked ≡ stacked_shadow_misses d.stacked
  pub apart : map single_counts c.singles.items ≡ map single_counts d.singles.items
  pub shades : map shade_misses c.shades.items ≡ map shade_misses d.shades.items
