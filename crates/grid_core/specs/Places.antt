-- Where each cache of an engine is served.
use Rattle.std.specs.Prelude.{◌≡◌, ℕ, ◌<◌, [], Bool, List, length, get_or, map}
use Rattle.cache_core.specs.declared.geometry.Geometry.{Geometry}
use Rattle.cache_core.specs.declared.policy.Policy.{Policy}
use Rattle.cache_core.specs.History.{Rules}
use Rattle.cache_core.specs.Kinds.{shadow_of}
use Rattle.cache_core.specs.Standing.{rules_from}
use Rattle.grid_core.specs.declared.places.Place.{Place}
use Rattle.grid_core.specs.declared.places.Place.TheVariants.{Together, Apart}
use Rattle.grid_core.specs.declared.places.Seat.{Seat}
use Rattle.grid_core.specs.Standing.{stack_rules}
use Rattle.grid_core.specs.Written.{rules_at_index}

-- the index of a place
abbrev pub place_index : Place → ℕ
place_index (Together i) = i
place_index (Apart i) = i

-- how many places there are of its kind, where m caches are served together, and n apart
abbrev pub place_count : ℕ → ℕ → Place → ℕ
place_count m n (Together i) = m
place_count m n (Apart i) = n

-- there is such a place
abbrev pub IsPlace : ℕ → ℕ → Place → Type 0
IsPlace m n p = place_index p < place_count m n p

-- the rules at a place
abbrev pub rules_placed : List Rules → List Rules → Place → Rules
rules_placed together apart (Together i) = rules_at_index together i
rules_placed together apart (Apart i) = rules_at_index apart i

-- the rules of the shadow at a place: that of a cache that is served together with others, or one
-- of those that are kept for caches of their own
abbrev pub shadow_placed : List Rules → List Rules → Place → Rules
shadow_placed together shades (Together i) = shadow_of (rules_at_index together i)
shadow_placed together shades (Apart i) = rules_at_index shades i

-- the list at a place
abbrev pub list_placed : List (List ℕ) → List (List ℕ) → Place → List ℕ
list_placed together apart (Together i) = get_or together i []
list_placed together apart (Apart i) = get_or apart i []

-- the places of a seat are those of its cache and of its shadow
pub record IsSeated (p : Policy) (together apart shades : List Rules) (s : Seat) : Type 0 where
  pub cell_there : IsPlace (length together) (length apart) s.cell
  pub cell : rules_placed together apart s.cell ≡ rules_from s.geometry p
  pub shadow_there : IsPlace (length together) (length shades) s.shadow
  pub shadow : shadow_placed together shades s.shadow ≡ shadow_of (rules_from s.geometry p)

-- the rules of caches that are served together
abbrev pub planned_rules : Bool → List Geometry → List Rules
planned_rules wback gs = map (λ g. stack_rules g wback) gs
