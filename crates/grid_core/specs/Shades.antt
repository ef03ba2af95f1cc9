-- The shadow of caches that do not allocate at writes.
use Rattle.std.specs.Prelude.{◌≡◌, ℕ, ◌∷◌}
use Rattle.cache_core.specs.declared.access.Access.{Access}
use Rattle.cache_core.specs.declared.counts.PerClass.{PerClass}
use Rattle.cache_core.specs.History.{History, Rules, access}
use Rattle.cache_core.specs.Parts.{outcome_of}
use Rattle.cache_core.specs.Counts.{counts_of}
use Rattle.cache_core.specs.Standing.{Holds, rules_held}
use Rattle.grid_core.specs.declared.shade.Shade.{Shade}

-- the rules of the cache
abbrev pub shade_rules : Shade → Rules
shade_rules s = rules_held s.contents

-- how often it missed, up to the last event that all caches of the engine served
abbrev pub shade_misses : Shade → PerClass
shade_misses s = s.misses

-- it counted n events
unfoldable pub ShadeHasCounted : ℕ → Shade → Type 0
ShadeHasCounted n s = s.counted ≡ n

-- whether the access x hit, after the history h
unfoldable pub ShadeHasHit : History → Access → Shade → Type 0
ShadeHasHit h x s = s.hit ≡ (outcome_of (shade_rules s) h x).hit

-- it stands for the history
pub record ShadeStandsFor (h : History) (s : Shade) : Type 0 where
  pub holds : Holds s.contents h
  pub counted : shade_misses s ≡ (counts_of (shade_rules s) h).misses

-- it has served the access x after the history h, and counted h
pub record ShadeReached (h : History) (x : Access) (s : Shade) : Type 0 where
  pub holds : Holds s.contents (access x ∷ h)
  pub hit : ShadeHasHit h x s
  pub counted : shade_misses s ≡ (counts_of (shade_rules s) h).misses
