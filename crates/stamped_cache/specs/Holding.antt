-- How what a cache holds relates to its history.
use Rattle.std.specs.Prelude.{◌≡◌, ℕ, ◌<◌, ◌==◌, true, List, map, length, is_some, Some}
use Rattle.std.specs.List.{list_any}
use Rattle.cache_core.specs.History.{History, Rules}
use Rattle.cache_core.specs.Residents.{distinct, is_resident, renewals}
use Rattle.cache_core.specs.Dirty.{is_written}
use Rattle.cache_core.specs.Order.{residents_of}
use Rattle.grid_core.specs.Numbers.{number_at}
use Rattle.grid_core.specs.Shadows.{number_by}
use Rattle.stamped_cache.specs.declared.state.State.{State}
use Rattle.stamped_cache.specs.States.{is_held, was_written}

-- this is the state of block y after a history
pub record IsStateOf (r : Rules) (h : History) (y : ℕ) (s : State) : Type 0 where
  pub held : is_held s ≡ is_resident r (renewals r h) y
  pub written : is_held s ≡ true → was_written s ≡ is_written r h y

-- the row has the numbers of the residents of set s, each once and in any order
pub record RowHoldsResidents (blocks : List ℕ) (r : Rules) (h : History) (s : ℕ) (row : List ℕ)
    : Type 0 where
  pub once : distinct row ≡ row
  pub same : (n : ℕ) → list_any (λ m. m == n) row
      ≡ list_any (λ m. m == n) (map (number_by blocks) (residents_of r h s))

-- the states of blocks by number, and the rows of all sets, are those after a history, by the
-- numbers that the places of a list of blocks are
pub record HoldBy (blocks : List ℕ) (r : Rules) (h : History) (states : ℕ → State)
    (rows : ℕ → List ℕ) : Type 0 where
  pub named : (y : ℕ) → is_resident r (renewals r h) y ≡ true →
      is_some (number_at blocks y) ≡ true
  pub each : (y n : ℕ) → number_at blocks y ≡ Some n → IsStateOf r h y (states n)
  pub low : (n : ℕ) → is_held (states n) ≡ true → n < length blocks
  pub sets : (s : ℕ) → s < r.sets → RowHoldsResidents blocks r h s (rows s)
