-- What a contract sees of a `Uses`.
use Rattle.std.specs.Prelude.{ℕ, Bool, List, reverse}
use Rattle.marked_list.specs.declared.uses.Uses.{Uses}
use Rattle.marked_list.specs.Uses.{has_stamp}

-- the uses, the latest first; the log has them in the order of time
unfoldable pub uses_of : Uses → List ℕ
uses_of u = reverse u.log.items

-- whether a block was ever used
unfoldable pub is_stamped : Uses → ℕ → Bool
is_stamped u b = has_stamp u.stamps.items b
