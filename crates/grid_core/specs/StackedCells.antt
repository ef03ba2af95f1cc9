-- How the caches that are served together relate to the history.
use Rattle.std.specs.Prelude.{◌≡◌, ℕ, Bool, true, false, not, ◌&&◌, ◌||◌, List, length, map}
use Rattle.std.specs.List.{All, list_all}
use Rattle.cache_core.specs.declared.access.Access.{Access}
use Rattle.cache_core.specs.declared.counts.Counts.{Counts}
use Rattle.cache_core.specs.declared.counts.PerClass.{PerClass}
use Rattle.cache_core.specs.History.{History, Rules, is_write}
use Rattle.grid_core.specs.declared.stacked.Stacked.{Stacked}
use Rattle.grid_core.specs.Standing.{HasMoved, found_in}
use Rattle.grid_core.specs.Cells.{HitsIn, KnowsPrior, hit_at, shape_rules}
use Rattle.grid_core.specs.Shadows.{far_in}
use Rattle.grid_core.specs.State.{IsAfter, IsAlike, counts_at}

-- the rules of the caches
unfoldable pub stacked_rules : Stacked → List Rules
stacked_rules e = map shape_rules e.shapes.items

-- how many accesses and flushes were served
unfoldable pub stacked_served : Stacked → ℕ
stacked_served e = e.served

-- what each cache counted
unfoldable pub stacked_counts : Stacked → List Counts
stacked_counts e = map (counts_at e.alike e.stacks.items) e.shapes.items

-- the misses of the shadow of each cache
unfoldable pub stacked_shadow_misses : Stacked → List PerClass
stacked_shadow_misses e = map (λ s. far_in e.shadows s.rank) e.shapes.items

-- the caches have counted what they had before, and served as many accesses and flushes
abbrev pub StackedKeepsCounts : Stacked → Stacked → Type 0
StackedKeepsCounts new old = (stacked_counts new ≡ stacked_counts old)
    × (stacked_shadow_misses new ≡ stacked_shadow_misses old)
    × (stacked_served new ≡ stacked_served old)

-- the caches stand for the history by the numbers that the places of a list of blocks are: their
-- state is what the history gives
pub record StackedStandsBy (blocks : List ℕ) (e : Stacked) (h : History) : Type 0 where
  pub served : stacked_served e ≡ length h
  pub alike : IsAlike e.geometry h e.alike
  pub state : IsAfter blocks e.geometry e.stacks.items e.shadows e.shapes.items h

-- the last access was x, after the history h: it used the block that was used last and so hit in
-- each cache, or it is known where it stood in the rows; what was known of its block is kept
pub record StackedHasAnswered (e : Stacked) (h : History) (x : Access) : Type 0 where
  pub write : e.write ≡ is_write x
  pub again : e.again ≡ true → All (HitsIn h x) e.shapes.items
  pub moved : e.again ≡ false → All (HasMoved h x) e.stacks.items
  pub prior : All (λ s. KnowsPrior s h x e.prior) e.shapes.items

-- whether the last access sent nothing to the next level, by what is kept of it: it is no write
-- that is sent on, and it used the block that was used last or hit in each cache
unfoldable pub is_silent : Stacked → Bool
is_silent e = not (e.write && not e.wback)
    && (e.again || list_all (hit_at (map found_in e.stacks.items)) e.shapes.items)
