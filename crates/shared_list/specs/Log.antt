-- A log of uses that many users share, as each of them sees it.
use Rattle.std.specs.Prelude.{ℕ, zero, suc, ◌+◌, Bool, not, ◌==◌, if◌then◌else◌, List, length}
use Rattle.std.specs.Prelude.{map, reverse}
use Rattle.marked_list.specs.Uses.{dead, living}
use Rattle.shared_list.specs.declared.log.Use.{Use}
use Rattle.shared_list.specs.Users.{has_user}

-- a use of a block that is the last one of no user
abbrev pub no_use : ℕ → Use
no_use number = record { number = number; users = 0 }

-- what user q sees of a use: the number of the block if it is the last use of the block by q, and
-- else a dead use
abbrev pub seen : ℕ → Use → ℕ
seen q u = if has_user u.users q then u.number else dead

-- a use is the last one of some user
abbrev pub has_users : Use → Bool
has_users u = not (u.users == 0)

-- the uses as user q sees them, the latest first
abbrev pub seen_by : ℕ → List Use → List ℕ
seen_by q log = reverse (map (seen q) log)

-- how many uses the first n users see, each by itself
abbrev pub seen_uses : List Use → ℕ → ℕ
seen_uses log zero = 0
seen_uses log (suc n) = length (living (seen_by n log)) + seen_uses log n
