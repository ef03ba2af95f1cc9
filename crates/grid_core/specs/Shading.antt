-- Where the shadow of a cache of its own is.
use Rattle.std.specs.Prelude.{◌≡◌, ◌<◌, ℕ, Bool, List, length}
use Rattle.cache_core.specs.declared.access.Access.{Access}
use Rattle.cache_core.specs.History.{History, Rules}
use Rattle.cache_core.specs.Kinds.{shadow_of}
use Rattle.cache_core.specs.Residents.{hits, renewals}
use Rattle.grid_core.specs.declared.places.Place.{Place}
use Rattle.grid_core.specs.declared.stacked.Stacked.{Stacked}
use Rattle.grid_core.specs.Places.{IsPlace, shadow_placed}
use Rattle.grid_core.specs.StackedCells.{StackedHasAnswered, StackedStandsBy}
use Rattle.grid_core.specs.StackedCells.{stacked_rules}
use Rattle.grid_core.specs.Written.{rules_at_index}

-- caches that are served together stand for the history by the numbers that the places of a list
-- of blocks are, if there are any caches
abbrev pub FollowsStacked : List ℕ → History → Stacked → Type 0
FollowsStacked blocks h s = 0 < length (stacked_rules s) → StackedStandsBy blocks s h

-- their last access was x, after the history h
abbrev pub StackedFollowed : History → Access → Stacked → Type 0
StackedFollowed h x s = 0 < length (stacked_rules s) → StackedHasAnswered s h x

-- whether the access x hits in a cache of these rules, after the history h
abbrev pub hits_in : History → Access → Rules → Bool
hits_in h x r = hits r (renewals r h) x

-- the shadow of a cache of these rules is at this place, and there are caches of its block size
-- that are served together, and so know which blocks were accessed
pub record IsShaded (together shades : List Rules) (s : Place × Rules) : Type 0 where
  pub there : IsPlace (length together) (length shades) s.0
  pub shadow : shadow_placed together shades s.0 ≡ shadow_of s.1
  pub some : 0 < length together
  pub same_bsize : (rules_at_index together 0).bsize ≡ s.1.bsize
