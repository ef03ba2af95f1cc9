-- The schedule that a list of choices gives.
use Rattle.std.specs.Prelude.{◌≡◌, ℕ, ◌+◌, ◌%◌, List, [], ◌∷◌, length, Option, Some, slice_get}
use Rattle.std.specs.Prelude.{slice_index}
use Rattle.din_trace.specs.declared.record.DinRecord.{DinRecord}
use Rattle.stage_core.specs.SecondLevel.{Parts}
use Rattle.stage_core.specs.Network.{Network, Machine, IsFinished, next, enabled, start, run}

-- the machine that choice number k (from 0) gives, out of those that can step: its index is the
-- choice, modulo their number; after the last choice it is the first of them
abbrev pub named : List ℕ → ℕ → List Machine → Option Machine
named choices k can = slice_get can (slice_index choices k % length can)

-- from this state on, step number k is made by the machine that choice number k gives, and so on
abbrev pub IsNamedFrom : Parts → ℕ → List ℕ → ℕ → List Machine → Network → Type 0
IsNamedFrom parts capacity choices k [] n = Unit {0}
IsNamedFrom parts capacity choices k (m ∷ ms) n =
    (named choices k (enabled parts capacity n) ≡ Some m)
    × ((after : Network) → next parts capacity m n ≡ Some after →
    IsNamedFrom parts capacity choices (k + 1) ms after)

-- the schedule is the one that the choices give, from the start until all machines have finished
pub record IsNamed (parts : Parts) (capacity : ℕ) (choices : List ℕ) (events : List DinRecord)
    (schedule : List Machine) : Type 0 where
  pub named : IsNamedFrom parts capacity choices 0 schedule (start events)
  pub last : Network
  pub leads : run parts capacity schedule (start events) ≡ Some last
  pub finished : IsFinished last
