-- How blocks are numbered.
use Rattle.std.specs.Prelude.{◌≡◌, ◌⊎◌, ℕ, ◌<◌, ◌/◌, nat_eq, List, [], ◌∷◌, ◌++◌, Option, Some}
use Rattle.std.specs.Prelude.{if◌then◌else◌, length, position}
use Rattle.std.specs.List.{list_any}
use Rattle.cache_core.specs.declared.access.Access.{Access}
use Rattle.cache_core.specs.History.{Rules}
use Rattle.grid_core.specs.Written.{rules_at_index}

-- the number of block b, where those of the list are numbered by their places
abbrev pub number_at : List ℕ → ℕ → Option ℕ
number_at blocks b = position (nat_eq b) blocks

-- the numbered blocks once the block b has a number: it is behind the others if it had none
abbrev pub with_number : ℕ → List ℕ → List ℕ
with_number b blocks = if list_any (nat_eq b) blocks then blocks else blocks ++ b ∷ []

-- the numbered blocks once memory was refused: as before, or with a number for the block b, too
abbrev pub MayNumber : ℕ → List ℕ → List ℕ → Type 0
MayNumber b before after = (after ≡ before) ⊎ (after ≡ with_number b before)

-- where blocks have n bytes, the block of an access has this number
abbrev pub IsNumberOf : List ℕ → ℕ → Access → ℕ → Type 0
IsNumberOf blocks n x number = number_at blocks (x.addr / n) ≡ Some number

-- if there are caches of these rules, their blocks, of one size, have n bytes
abbrev pub HaveBlocksOf : ℕ → List Rules → Type 0
HaveBlocksOf n rs = 0 < length rs → (rules_at_index rs 0).bsize ≡ n

-- if there are caches of these rules, whose blocks have one size, the block of an access has this
-- number
abbrev pub IsNumberIn : List ℕ → List Rules → Access → ℕ → Type 0
IsNumberIn blocks rs x number =
    0 < length rs → IsNumberOf blocks (rules_at_index rs 0).bsize x number
