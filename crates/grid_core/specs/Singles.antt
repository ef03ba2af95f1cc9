-- A cache of its own among those that an engine serves.
use Rattle.std.specs.Prelude.{◌≡◌, ◌≤◌, ◌<◌, ℕ, ◌∷◌, true, false, List, length, map, get_or}
use Rattle.std.specs.Global.{Vec}
use Rattle.cache_core.specs.declared.access.Access.{Access}
use Rattle.cache_core.specs.declared.counts.Counts.{Counts}
use Rattle.cache_core.specs.History.{History, Rules, access}
use Rattle.cache_core.specs.Parts.{outcome_of}
use Rattle.cache_core.specs.Counts.{counts_of}
use Rattle.cache_core.specs.Standing.{Holds, IsServed, dirty_held, rules_held}
use Rattle.grid_core.specs.declared.places.Place.{Place}
use Rattle.grid_core.specs.declared.single.Single.{Single}

-- the rules of the cache
abbrev pub single_rules : Single → Rules
single_rules s = rules_held s.contents

-- what it counted, up to the last event that all caches of the engine served
abbrev pub single_counts : Single → Counts
single_counts s = s.counts

-- how many of its ways are dirty
abbrev pub single_dirty : Single → ℕ
single_dirty s = dirty_held s.contents

-- the place of its shadow, and its rules
abbrev pub single_shading : Single → Place × Rules
single_shading s = (s.shadow, single_rules s)

-- no list has more blocks than the cache at its place has dirty ways
abbrev pub FitDirtyWays : List (Vec ℕ) → List Single → Type 0
FitDirtyWays lists singles = (k : ℕ) → k < length singles →
    get_or (map (λ l. length l.items) lists) k 0 ≤ get_or (map single_dirty singles) k 0

-- it counted n events, and served no other
unfoldable pub HasSettled : ℕ → Single → Type 0
HasSettled n s = (s.settled ≡ n) × (s.pending ≡ false)

-- it counted n events, and served an access that is not counted yet
unfoldable pub IsPending : ℕ → Single → Type 0
IsPending n s = (s.settled ≡ n) × (s.pending ≡ true)

-- it stands for the history
pub record SingleStandsFor (h : History) (s : Single) : Type 0 where
  pub holds : Holds s.contents h
  pub counted : single_counts s ≡ counts_of (single_rules s) h

-- it has served the access x after the history h, and counted h
pub record SingleReached (h : History) (x : Access) (s : Single) : Type 0 where
  pub holds : Holds s.contents (access x ∷ h)
  pub served : IsServed (single_rules s) h x s.served
  pub counted : single_counts s ≡ counts_of (single_rules s) h

-- its last access was x, after the history h
abbrev pub SingleHasAnswered : History → Access → Single → Type 0
SingleHasAnswered h x s = s.answer ≡ outcome_of (single_rules s) h x
