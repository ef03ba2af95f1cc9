-- Where caches are served: the rules of each cell of each family.
use Rattle.std.specs.Prelude.{◌≡◌, ◌<◌, ℕ, List, [], length, get_or, map}
use Rattle.cache_core.specs.History.{Rules}
use Rattle.cache_core.specs.Standing.{rules_from}
use Rattle.grid_core.specs.Written.{rules_at_index}
use Rattle.grid_run.specs.declared.seat.Seat.{Seat}
use Rattle.grid_run.specs.declared.shelf.Shelf.{Shelf}

-- the rules of each cell of each family: of every seat
abbrev pub SeatRules : Type 0
SeatRules = List (List Rules)

-- the rules of the caches on a shelf
unfoldable pub rules_on : Shelf → List Rules
rules_on s = map (λ g. rules_from g s.policy) s.geometries.items

-- the rules at a seat
abbrev pub rules_of_seat : SeatRules → Seat → Rules
rules_of_seat t s = rules_at_index (get_or t s.family []) s.cell

-- a seat of a cache with these rules
pub record IsSeatOf (t : SeatRules) (r : Rules) (s : Seat) : Type 0 where
  pub family : s.family < length t
  pub cell : s.cell < length (get_or t s.family [])
  pub rules : rules_of_seat t s ≡ r

-- each seat of a cache stays one of that cache
abbrev pub Keeps : SeatRules → SeatRules → Type 0
Keeps old new = (r : Rules) (s : Seat) → IsSeatOf old r s → IsSeatOf new r s

-- the index of a cell with these rules
pub record IsCellOf (rs : List Rules) (r : Rules) (cell : ℕ) : Type 0 where
  pub inside : cell < length rs
  pub rules : rules_at_index rs cell ≡ r

-- each cell stays where it is
abbrev pub KeepsCells : List Rules → List Rules → Type 0
KeepsCells old new = (r : Rules) (cell : ℕ) → IsCellOf old r cell → IsCellOf new r cell
