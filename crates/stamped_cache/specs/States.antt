-- What caches know of blocks, by number.
use Rattle.std.specs.Prelude.{ℕ, ◌+◌, ◌*◌, Bool, true, false, get_or}
use Rattle.stamped_cache.specs.declared.state.State.{State}
use Rattle.stamped_cache.specs.declared.states.States.{States}
use Rattle.stamped_cache.specs.declared.state.State.TheVariants.{Absent, Clean, Written}

-- the cache holds the block
abbrev pub is_held : State → Bool
is_held Absent = false
is_held Clean = true
is_held Written = true

-- a write used it at its last load or after that
abbrev pub was_written : State → Bool
was_written Absent = false
was_written Clean = false
was_written Written = true

-- the state that the block of number n has in the cache of user q
unfoldable pub states_of : States → ℕ → ℕ → State
states_of s q n = get_or s.states.items (n * s.users + q) Absent

-- how many caches there are
unfoldable pub state_users : States → ℕ
state_users s = s.users

-- how many blocks have states
unfoldable pub state_blocks : States → ℕ
state_blocks s = s.blocks
