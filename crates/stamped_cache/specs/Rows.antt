-- The rows of caches, by the numbers of the blocks that each set holds.
use Rattle.std.specs.Prelude.{ℕ, ◌+◌, ◌*◌, List, take, length, get_or}
use Rattle.cache_core.specs.Row.{row}
use Rattle.stamped_cache.specs.declared.rows.Rows.{Rows}

-- the numbers of the blocks in row s, in any order
unfoldable pub row_held : Rows → ℕ → List ℕ
row_held rows s = take (get_or rows.filled.items s 0) (row rows.ways s rows.numbers.items)

-- how many rows there are
unfoldable pub rows_in : Rows → ℕ
rows_in rows = length rows.filled.items

-- of n caches, the rows of a set stand together: the numbers of the blocks that set s of the cache
-- of user q holds
abbrev pub rows_of : Rows → ℕ → ℕ → ℕ → List ℕ
rows_of rows n q s = row_held rows (s * n + q)

-- how many ways a set has
unfoldable pub set_ways : Rows → ℕ
set_ways rows = rows.ways
