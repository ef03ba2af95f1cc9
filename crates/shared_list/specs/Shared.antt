-- What a contract sees of a `SharedList`.
use Rattle.std.specs.Prelude.{◌≡◌, ◌≢◌, ℕ, zero, suc, ◌+◌, ◌*◌, ◌<◌, ◌≤◌, ◌-◌, Bool, ◌==◌, ◌||◌}
use Rattle.std.specs.Prelude.{List, length, get_or}
use Rattle.marked_list.specs.Recency.{brought_front}
use Rattle.marked_list.specs.Uses.{has_stamp, living}
use Rattle.shared_list.specs.declared.list.SharedList.{SharedList}
use Rattle.shared_list.specs.declared.window.Window.{Window}
use Rattle.shared_list.specs.Log.{no_use, seen_by}
use Rattle.shared_list.specs.Stamps.{blocks_in, stamps_of}
use Rattle.shared_list.specs.Windows.{no_window}

-- the blocks that user q used, the latest first
unfoldable pub order_by : SharedList → ℕ → List ℕ
order_by l q = living (seen_by q l.log.items)

-- whether user q ever used a block
unfoldable pub was_used_by : SharedList → ℕ → ℕ → Bool
was_used_by l q b = has_stamp (stamps_of l.stamps q) b

-- how many users there are
unfoldable pub users_of : SharedList → ℕ
users_of l = length l.windows.items

-- of how many blocks each user is told whether they are among those that it used last
unfoldable pub size_of_list : SharedList → ℕ
size_of_list l = l.size

-- how many blocks the first n users used since the last clear, each by itself
abbrev pub used_by_first : SharedList → ℕ → ℕ
used_by_first l zero = 0
used_by_first l (suc n) = length (order_by l n) + used_by_first l n

-- how many uses the log has
unfoldable pub kept_in : SharedList → ℕ
kept_in l = length l.log.items

-- the log has at most two uses for each block in the lists of all users, and 4,096 more
abbrev pub IsShort : SharedList → Type 0
IsShort l = kept_in l ≤ 4096 + 2 * used_by_first l (users_of l)

-- a use of this block was begun, and no other one since
pub record IsBegun (l : SharedList) (b : ℕ) : Type 0 where
  pub some : 0 < length l.log.items
  pub room : b < blocks_in l.stamps
  pub block : (get_or l.log.items (length l.log.items - 1) (no_use 0)).number ≡ b

-- the window of user q
abbrev pub window_of : SharedList → ℕ → Window
window_of l q = get_or l.windows.items q no_window

-- user u used the block of the use that was begun, and no other user did
pub record IsTouched (u b : ℕ) (old new : SharedList) : Type 0 where
  pub order : order_by new u ≡ brought_front b (order_by old u)
  pub others : (q : ℕ) → q < users_of old → q ≢ u → order_by new q ≡ order_by old q
  pub used : (n : ℕ) → was_used_by new u n ≡ (b == n || was_used_by old u n)
  pub unused : (q n : ℕ) → q < users_of old → q ≢ u → was_used_by new q n ≡ was_used_by old q n
  pub begun : IsBegun new b
  pub users : users_of new ≡ users_of old
  pub size : size_of_list new ≡ size_of_list old
