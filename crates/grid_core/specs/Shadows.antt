-- What a contract sees of the blocks that were accessed, and of their order.
use Rattle.std.specs.Prelude.{◌≡◌, ℕ, ◌==◌, ◌<◌, length, Bool, true, false, List, map, suc, drop}
use Rattle.std.specs.Prelude.{Option, Some, None, unwrap_or}
use Rattle.std.specs.List.{list_any}
use Rattle.cache_core.specs.declared.counts.PerClass.{PerClass}
use Rattle.marked_list.specs.Marked.{order_of, marked_sizes, was_used}
use Rattle.grid_core.specs.declared.recent.Recent.{Recent}
use Rattle.grid_core.specs.declared.shadows.Shadows.{Shadows}
use Rattle.grid_core.specs.Numbers.{number_at}
use Rattle.grid_core.specs.Totals.{total}

-- whether the block of this number was used, if there is such a number, by the numbers that were
abbrev pub was_number_used : (ℕ → Bool) → Option ℕ → Bool
was_number_used used None = false
was_number_used used (Some n) = used n

-- whether a block was accessed, if each block of a list has its place there as its number
abbrev pub is_known : List ℕ → Shadows → ℕ → Bool
is_known blocks s b = was_number_used (was_used s.order) (number_at blocks b)

-- each number that was used is that of a block of the list
abbrev pub AreNumbered : List ℕ → Shadows → Type 0
AreNumbered blocks s = (n : ℕ) → was_used s.order n ≡ true → n < length blocks

-- the number of a block that was accessed
abbrev pub number_by : List ℕ → ℕ → ℕ
number_by blocks b = unwrap_or (number_at blocks b) 0

-- what is known of the block that was used last
abbrev pub recent_in : Shadows → Recent
recent_in s = s.recent

-- the sizes of the shadows in blocks
abbrev pub shadow_sizes : Shadows → List ℕ
shadow_sizes s = marked_sizes s.order

-- the accesses by class, for each level that their blocks had before
abbrev pub levels_in : Shadows → List PerClass
levels_in s = s.levels.items

-- those that missed in the shadow of the size of rank k
abbrev pub far_in : Shadows → ℕ → PerClass
far_in s k = total (drop (suc k) (levels_in s))

-- by these numbers, the blocks of the list ys, each of which was accessed, are in the order of the
-- shadows
pub record HoldsOrder (blocks : List ℕ) (s : Shadows) (ys : List ℕ) : Type 0 where
  pub order : order_of s.order ≡ map (number_by blocks) ys
  pub known : (y : ℕ) → list_any (λ m. m == y) ys ≡ true → is_known blocks s y ≡ true
