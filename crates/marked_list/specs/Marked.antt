-- What a contract sees of a `Marked`.
use Rattle.std.specs.Prelude.{ℕ, Bool, List, map, length}
use Rattle.marked_list.specs.declared.marked.Marked.{Marked}
use Rattle.marked_list.specs.Log.{uses_of, is_stamped}
use Rattle.marked_list.specs.Marks.{mark_size}
use Rattle.marked_list.specs.Uses.{living}

-- the blocks in order of last use, the latest first
unfoldable pub order_of : Marked → List ℕ
order_of m = living (uses_of m.uses)

-- the sizes
unfoldable pub marked_sizes : Marked → List ℕ
marked_sizes m = map mark_size m.marks.items

-- whether a block was ever used
unfoldable pub was_used : Marked → ℕ → Bool
was_used m b = is_stamped m.uses b

-- how many uses it keeps, dead ones and living ones
unfoldable pub kept_uses : Marked → ℕ
kept_uses m = length (uses_of m.uses)
