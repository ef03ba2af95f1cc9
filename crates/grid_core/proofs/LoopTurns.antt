-- What one turn of a loop over shadows, over caches of their own or over rows does.
use Rattle.std.proofs.Common.{◌≡◌, ℕ, ◌+◌, ◌∷◌, List, map}
use Rattle.std.specs.Global.{Vec}
use Rattle.std.specs.List.{All}
use Rattle.cache_core.specs.declared.access.Access.{Access}
use Rattle.cache_core.specs.History.{History, access, flush}
use Rattle.grid_core.specs.declared.shade.Shade.{Shade}
use Rattle.grid_core.specs.declared.single.Single.{Single}
use Rattle.grid_core.specs.declared.stack.Stack.{Stack}
use Rattle.grid_core.specs.declared.stacked.Stacked.{Stacked}
use Rattle.grid_core.specs.Cells.{items_of}
use Rattle.grid_core.specs.Histograms.{level_at}
use Rattle.grid_core.specs.Shades.{ShadeHasCounted, ShadeHasHit, ShadeReached, ShadeStandsFor}
use Rattle.grid_core.specs.Shading.{StackedFollowed}
use Rattle.grid_core.specs.Singles.{HasSettled, IsPending, SingleHasAnswered, SingleReached}
use Rattle.grid_core.specs.Singles.{SingleStandsFor, single_rules}
use Rattle.grid_core.specs.Standing.{HasMoved, IsCountedIn, IsWithinStack, StackStandsFor}
use Rattle.grid_core.specs.Standing.{StayFirstFrom, rules_of_rows}
use Rattle.grid_core.specs.Written.{written_by}

-- a shadow has served the access
pub record ShadeServes (x : Access) (old new : Shade) : Type 0 where
  pub reached : (h : History) → ShadeStandsFor h old → ShadeReached h x new
  pub counted : (n : ℕ) → ShadeHasCounted n old → ShadeHasCounted n new

-- it has counted it
pub record ShadeSettles (x : Access) (old new : Shade) : Type 0 where
  pub stands : (h : History) → ShadeReached h x old → ShadeStandsFor (access x ∷ h) new
  pub hit : (h : History) → ShadeReached h x old → ShadeHasHit h x new
  pub counted : (n : ℕ) → ShadeHasCounted n old → ShadeHasCounted (n + 1) new

-- it has let all blocks go
pub record ShadeClears (old new : Shade) : Type 0 where
  pub stands : (h : History) → ShadeStandsFor h old → ShadeStandsFor (flush ∷ h) new
  pub counted : (n : ℕ) → ShadeHasCounted n old → ShadeHasCounted (n + 1) new

-- a cache of its own has served the access
pub record SingleServes (x : Access) (old new : Single) : Type 0 where
  pub reached : (h : History) → SingleStandsFor h old → SingleReached h x new
  pub pending : (n : ℕ) → HasSettled n old → IsPending n new

-- it has counted it, as the others and the shadows tell
pub record SingleSettles (x : Access) (stacked : Stacked) (shades : List Shade) (old new : Single)
    : Type 0 where
  pub stands : (h : History) → SingleReached h x old → StackedFollowed h x stacked
      → All (ShadeHasHit h x) shades → SingleStandsFor (access x ∷ h) new
  pub answers : (h : History) → SingleReached h x old → StackedFollowed h x stacked
      → All (ShadeHasHit h x) shades → SingleHasAnswered h x new
  pub settled : (n : ℕ) → IsPending n old → HasSettled (n + 1) new

-- it has counted a flush, which writes these lists back if they are those of all such caches
pub record SingleClears (lists : List (Vec ℕ)) (all : List Single) (old new : Single) : Type 0 where
  pub stands : (h : History) → SingleStandsFor h old
      → map items_of lists ≡ map (written_by h) (map single_rules all)
      → SingleStandsFor (flush ∷ h) new
  pub settled : (n : ℕ) → HasSettled n old → HasSettled (n + 1) new

-- rows have served the access, of this level, and stay as they are if they are of more sets than
-- the last row that is the least
pub record RowServes (x : Access) (level least : ℕ) (old new : Stack) : Type 0 where
  pub stands : (h : History) → StackStandsFor old h
      → StayFirstFrom (rules_of_rows old).bsize least h x
      → StackStandsFor new (access x ∷ h)
  pub moved : (h : History) → StackStandsFor old h
      → StayFirstFrom (rules_of_rows old).bsize least h x
      → HasMoved h x new
  pub counted : (sizes : List ℕ) (h : History) → StackStandsFor old h
      → StayFirstFrom (rules_of_rows old).bsize least h x
      → level ≡ level_at (rules_of_rows old) sizes h x → IsCountedIn sizes h old
      → IsCountedIn sizes (access x ∷ h) new
  pub bounds : (n : ℕ) → IsWithinStack n old → IsWithinStack (n + 1) new

-- they are empty
pub record RowClears (old new : Stack) : Type 0 where
  pub stands : (h : History) → StackStandsFor new (flush ∷ h)
  pub counted : (sizes : List ℕ) (h : History) → IsCountedIn sizes h old
      → IsCountedIn sizes (flush ∷ h) new
  pub bounds : (n : ℕ) → IsWithinStack n old → IsWithinStack n new
