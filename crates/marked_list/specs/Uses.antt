-- Uses of blocks, the latest first, and what the code keeps of them.
use Rattle.std.specs.Prelude.{◌≡◌, ◌≢◌, ℕ, ◌-◌, ◌<◌, Bool, true, not, nat_lt, ◌==◌, if◌then◌else◌}
use Rattle.std.specs.Prelude.{List, [], ◌∷◌, length, map, filter, take, get_or, set, Option, Some}
use Rattle.std.specs.Prelude.{None}
use Rattle.std.specs.List.{list_any}

-- The number of uses before the last one of b, if there is one. In the order of time, this is the
-- place of that use.
abbrev pub last_in : List ℕ → ℕ → Option ℕ
last_in [] b = None
last_in (m ∷ ms) b = if m == b then Some (length ms) else last_in ms b

-- the uses from a place on, the latest first
abbrev pub since : ℕ → List ℕ → List ℕ
since place ms = take (length ms - place) ms

-- what stands at a use whose block was used again
abbrev pub dead : ℕ
dead = 4294967295

-- the uses that are the last ones of their blocks
abbrev pub living : List ℕ → List ℕ
living ms = filter (λ m. not (m == dead)) ms

-- the uses once those of a block are dead
abbrev pub buried : ℕ → List ℕ → List ℕ
buried b ms = map (λ m. if m == b then dead else m) ms

-- a log in which the use at a place is dead, if there is one
abbrev pub with_dead : List ℕ → Option ℕ → List ℕ
with_dead log None = log
with_dead log (Some p) = set log p dead

-- the uses after one more use of a block
abbrev pub used_next : ℕ → List ℕ → List ℕ
used_next b ms = b ∷ buried b ms

-- the stamp of a block that was never used
abbrev pub never : ℕ
never = 4294967295

-- the stamp of a block whose uses were forgotten
abbrev pub forgotten : ℕ
forgotten = 4294967294

-- the stamp at a number
abbrev pub stamp_at : List ℕ → ℕ → ℕ
stamp_at stamps q = get_or stamps q never

-- the place that a stamp says, if it says one
abbrev pub stamped_place : ℕ → Option ℕ
stamped_place n = if nat_lt n forgotten then Some n else None

-- the stamp of each block that was used is the place of its last use, and no other says a place
abbrev pub AreStamps : List ℕ → List ℕ → Type 0
AreStamps ms stamps = (q : ℕ) → q ≢ dead → stamped_place (stamp_at stamps q) ≡ last_in ms q

-- whether the stamp of a block says that it was ever used
abbrev pub has_stamp : List ℕ → ℕ → Bool
has_stamp stamps q = not (stamp_at stamps q == never)

-- each block that was used has room for a stamp
abbrev pub HaveStampRoom : List ℕ → List ℕ → Type 0
HaveStampRoom ms stamps = (b : ℕ) → list_any (λ m. m == b) ms ≡ true → b < length stamps
