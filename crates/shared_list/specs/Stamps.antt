-- The stamps that each user of a log has of the blocks.
use Rattle.std.specs.Prelude.{ℕ, ◌+◌, ◌*◌, List, map, get_or}
use Rattle.std.specs.List.{range_with_len}
use Rattle.marked_list.specs.Uses.{never}
use Rattle.shared_list.specs.declared.stamps.Stamps.{Stamps}

-- the stamps of user q, by the numbers of the blocks
unfoldable pub stamps_of : Stamps → ℕ → List ℕ
stamps_of s q =
    map (λ b. get_or s.stamps.items (b * s.users + q) never) (range_with_len 0 s.blocks)

-- how many users there are
unfoldable pub users_in : Stamps → ℕ
users_in s = s.users

-- how many blocks have stamps
unfoldable pub blocks_in : Stamps → ℕ
blocks_in s = s.blocks
