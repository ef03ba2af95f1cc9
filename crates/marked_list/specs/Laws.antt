-- What the level of a block says.
use Rattle.std.specs.Prelude.{◌≡◌, ℕ, ◌<◌, true, not, ◌&&◌, ◌==◌, nat_lt, List, ◌∷◌, length}
use Rattle.std.specs.Prelude.{get_or}
use Rattle.std.specs.List.{list_any}
use Rattle.std.specs.List.Sorted.{IsStrictlyIncreasing}
use Rattle.cache_core.specs.declared.access.Access.{Access}
use Rattle.cache_core.specs.History.{Rules, History, access, block_of}
use Rattle.cache_core.specs.Residents.{distinct, before, hits, renewals}
use Rattle.cache_core.specs.Kinds.{shadow_of}
use Rattle.marked_list.specs.Recency.{is_among, level_of, brought_front}

-- a size holds a block just if the block is in the list, with fewer other blocks before it than the
-- size says
abbrev pub SizesHoldByDistance : Type 0
SizesHoldByDistance = (ys : List ℕ) (b size : ℕ) → is_among b ys size
    ≡ (list_any (λ m. m == b) ys && nat_lt (length (before b ys)) size)

-- of rising sizes, those that hold a block are those from its level on
abbrev pub LevelsTellSizes : Type 0
LevelsTellSizes = (sizes : List ℕ) → IsStrictlyIncreasing sizes →
    (ys : List ℕ) (b j : ℕ) → j < length sizes →
    is_among b ys (get_or sizes j 0) ≡ not (nat_lt j (level_of sizes ys b))

-- of rising sizes, let one be a cache's number of blocks: the cache's shadow hits just if the level
-- is not above that size's index
abbrev pub LevelsTellShadowHits : Type 0
LevelsTellShadowHits = (sizes : List ℕ) → IsStrictlyIncreasing sizes → (j : ℕ) → j < length sizes →
    (r : Rules) → r.blocks ≡ get_or sizes j 0 → (h : History) (x : Access) →
    hits (shadow_of r) (renewals (shadow_of r) h) x
    ≡ not (nat_lt j (level_of sizes (distinct (renewals (shadow_of r) h)) (block_of r x)))

-- where writes allocate, an access brings its block to the front of the shadow's order
abbrev pub AccessesBringFront : Type 0
AccessesBringFront = (r : Rules) → r.walloc ≡ true → (h : History) (x : Access) →
    distinct (renewals (shadow_of r) (access x ∷ h))
    ≡ brought_front (block_of r x) (distinct (renewals (shadow_of r) h))
