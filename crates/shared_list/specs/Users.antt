-- Sets of users, with a bit for each.
use Rattle.std.specs.Prelude.{ℕ, Bool, ◌==◌}
use Rattle.std.specs.Int.{bit_at}
use Rattle.shared_list.specs.declared.users.Users.{Users}

-- the user is in the set
abbrev pub has_user : ℕ → ℕ → Bool
has_user users q = bit_at users q == 1

-- the user is among them
abbrev pub is_user : Users → ℕ → Bool
is_user u q = has_user u.bits q

-- the bits of some users as a number, which is less without one of them
unfoldable pub bits_of : Users → ℕ
bits_of u = u.bits
