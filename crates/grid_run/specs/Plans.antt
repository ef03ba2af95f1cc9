-- Which shelf, which second levels and which lane caches belong to.
use Rattle.std.specs.Prelude.{◌≡◌, ◌<◌, ℕ, List, length, get_or}
use Rattle.std.specs.List.{All}
use Rattle.cache_core.specs.Geometry.{blocks_of, bsize_of, sets_of}
use Rattle.cache_core.specs.History.{Rules}
use Rattle.cache_core.specs.declared.geometry.Geometry.{Geometry}
use Rattle.cache_core.specs.declared.policy.Policy.{Policy}
use Rattle.stage_core.specs.SecondLevel.{Hierarchy}
use Rattle.stage_core.specs.declared.selection.Selection.{Selection}
use Rattle.grid_run.specs.Backs.{BackTask, IsPlacedIn, IsSeatIn}
use Rattle.grid_run.specs.Lanes.{LaneTask}
use Rattle.grid_run.specs.Rows.{IsPlaceIn, IsPlaceOf}
use Rattle.grid_run.specs.Seats.{IsCellOf, SeatRules}
use Rattle.grid_run.specs.declared.plan.BackShelf.{BackShelf}
use Rattle.grid_run.specs.declared.plan.LanePlan.{LanePlan}
use Rattle.grid_run.specs.declared.plan.Place.{Place}
use Rattle.grid_run.specs.declared.seat.Seat.{Seat}
use Rattle.grid_run.specs.declared.shelf.Shelf.{Shelf}

-- the geometry at the index has as many blocks, in as many sets
pub record IsSameShape (gs : List Geometry) (g : Geometry) (index : ℕ) : Type 0 where
  pub inside : index < length gs
  pub blocks : (d : Geometry) → blocks_of (get_or gs index d) ≡ blocks_of g
  pub sets : (d : Geometry) → sets_of (get_or gs index d) ≡ sets_of g

-- of the list, the element at the index has this
pub record HasAt {X : Type 0} (P : X → Type 0) (xs : List X) (index : ℕ) : Type 0 where
  pub inside : index < length xs
  pub has : (d : X) → P (get_or xs index d)

-- the shelf is for caches of this block size and policy
pub record ShelfSuits (g : Geometry) (p : Policy) (s : Shelf) : Type 0 where
  pub bsize : bsize_of g ≡ bsize_of s.first
  pub policy : s.policy ≡ p

-- so is the shelf at the index
abbrev pub IsShelfFor : Geometry → Policy → List Shelf → ℕ → Type 0
IsShelfFor g p = HasAt (ShelfSuits g p)

-- the second levels are behind these seats, and for caches of this block size and policy
pub record SuitsBehind (i d : Seat) (g : Geometry) (p : Policy) (b : BackShelf) : Type 0 where
  pub on_i : b.i ≡ i
  pub on_d : b.d ≡ d
  pub shelf : ShelfSuits g p b.shelf

-- so are the second levels at the index
abbrev pub AreBacksFor : Seat → Seat → Geometry → Policy → List BackShelf → ℕ → Type 0
AreBacksFor i d g p = HasAt (SuitsBehind i d g p)

-- the lane at the index is one of this selection
abbrev pub IsLaneFor : Selection → List LanePlan → ℕ → Type 0
IsLaneFor s = HasAt (λ (lane : LanePlan). lane.selection ≡ s)

-- the second levels are behind these seats, and this cell is one of a cache with these rules
pub record IsCellBehind (i d : Seat) (r : Rules) (k : ℕ) (b : BackTask) : Type 0 where
  pub on_i : b.i ≡ i
  pub on_d : b.d ≡ d
  pub cell : IsCellOf b.rules r k

-- a seat of a cache with these rules among second levels, behind these seats
pub record IsSeatBehind (i d : Seat) (r : Rules) (bs : List BackTask) (s : Seat) : Type 0 where
  pub family : s.family < length bs
  pub back : (other : BackTask) → IsCellBehind i d r s.cell (get_or bs s.family other)

-- each seat of a cache among second levels stays one of that cache
abbrev pub KeepsBehind : List BackTask → List BackTask → Type 0
KeepsBehind old new = (i d : Seat) (r : Rules) (s : Seat) →
    IsSeatBehind i d r old s → IsSeatBehind i d r new s

-- all second levels stay behind seats that are there, if these two seats are there
abbrev pub KeepsPlaced : Seat → Seat → List BackTask → List BackTask → Type 0
KeepsPlaced i d old new = (on_i on_d : SeatRules) → IsSeatIn on_i i → IsSeatIn on_d d →
    All (IsPlacedIn on_i on_d) old → All (IsPlacedIn on_i on_d) new

-- each place of a configuration in a lane stays one of it
abbrev pub KeepsPlacesIn : LaneTask → LaneTask → Type 0
KeepsPlacesIn old new = (c : Hierarchy) (s : Selection) (p : Place) →
    IsPlaceIn old c s p → IsPlaceIn new c s p

-- the same in any of the lanes
abbrev pub KeepsPlaces : List LaneTask → List LaneTask → Type 0
KeepsPlaces old new = (c : Hierarchy) (s : Selection) (p : Place) →
    IsPlaceOf old c s p → IsPlaceOf new c s p
