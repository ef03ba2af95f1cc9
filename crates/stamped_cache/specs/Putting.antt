-- How a block is put into its set.
use Rattle.std.specs.Prelude.{◌≡◌, ℕ, ◌-◌, ◌%◌, ◌<◌, Bool, false, if◌then◌else◌, List}
use Rattle.std.specs.Prelude.{length, get_or, Option, Some, None}
use Rattle.cache_core.specs.declared.access.Access.{Access}
use Rattle.cache_core.specs.History.{History, Rules, block_of}
use Rattle.cache_core.specs.Order.{residents_of}
use Rattle.grid_core.specs.Numbers.{number_at}
use Rattle.grid_core.specs.Shadows.{number_by}
use Rattle.grid_core.specs.Ways.{IsStacked}
use Rattle.stamped_cache.specs.declared.state.State.{State}
use Rattle.stamped_cache.specs.declared.state.State.TheVariants.{Clean, Written}
use Rattle.stamped_cache.specs.Holding.{HoldBy}
use Rattle.stamped_cache.specs.States.{is_held}

-- the state of a block that was just loaded
abbrev pub loaded : Bool → State
loaded write = if write then Written else Clean

-- the last resident of a set, as far as it is full: the one whose last use is the longest ago
abbrev pub last_of : Rules → History → ℕ → ℕ
last_of r h s = get_or (residents_of r h s) (r.assoc - 1) 0

-- the set of this row has so many ways: it has room for one more block where none is to leave, and
-- else the one at an index leaves a full row
abbrev pub LeavesRoom : ℕ → List ℕ → Option ℕ → Type 0
LeavesRoom ways row None = length row < ways
LeavesRoom ways row (Some i) = (i < length row) × (length row ≡ ways)

-- the block that is to leave set s, if one is, is the one whose last use is the longest ago
abbrev pub IsLeaving : List ℕ → Rules → History → ℕ → List ℕ → Option ℕ → Type 0
IsLeaving blocks r h s row None = Unit {0}
IsLeaving blocks r h s row (Some i) = get_or row i 0 ≡ number_by blocks (last_of r h s)

-- the access x misses after the history h, and its block of number n goes to this set, where the
-- block at an index leaves, if there is one
pub record Misses (blocks : List ℕ) (r : Rules) (h : History) (x : Access) (n set : ℕ)
    (leaving : Option ℕ) (states : ℕ → State) (rows : ℕ → List ℕ) : Type 0 where
  pub stacked : IsStacked r
  pub some : 0 < r.assoc
  pub deep : 0 < r.sets
  pub held : HoldBy blocks r h states rows
  pub number : number_at blocks (block_of r x) ≡ Some n
  pub absent : is_held (states n) ≡ false
  pub here : set ≡ block_of r x % r.sets
  pub place : LeavesRoom r.assoc (rows set) leaving
  pub last : IsLeaving blocks r h set (rows set) leaving
