-- The blocks that a user of a log used last, and what is kept for it.
use Rattle.std.specs.Prelude.{◌≡◌, ℕ, ◌<◌, ◌≤◌, ◌-◌, List, length, get_or}
use Rattle.cache_core.specs.Residents.{distinct}
use Rattle.marked_list.specs.declared.marks.Mark.{Mark}
use Rattle.marked_list.specs.Marks.{IsMark}
use Rattle.marked_list.specs.Uses.{AreStamps, living}
use Rattle.shared_list.specs.declared.log.Use.{Use}
use Rattle.shared_list.specs.declared.stamps.Stamps.{Stamps}
use Rattle.shared_list.specs.declared.window.Window.{Window}
use Rattle.shared_list.specs.Log.{seen_by}
use Rattle.shared_list.specs.Stamps.{stamps_of}

-- a window of so many blocks as a mark of one list
abbrev pub mark_of : ℕ → Window → Mark
mark_of size w = record { size = size; place = w.place }

-- the window of a user who used nothing
abbrev pub no_window : Window
no_window = record { place = 0; used = 0 }

-- the window begins at the place that a list has for its place
abbrev pub at_place : List ℕ → Window → Window
at_place places w = record { place = get_or places w.place 0; used = w.used }

-- what is kept for a user stands for the uses that it sees: the stamps are the places of its last
-- uses, and its window, which has as many blocks as the size says, does not begin behind the latest
-- use of all
pub record IsKept (size : ℕ) (ms stamps : List ℕ) (w : Window) : Type 0 where
  pub stamped : AreStamps ms stamps
  pub once : distinct (living ms) ≡ living ms
  pub used : w.used ≡ length (living ms)
  pub mark : IsMark ms (mark_of size w)
  pub inside : w.place ≤ length ms - 1
  pub fresh : w.used ≡ 0 → w.place ≡ 0

-- so it is for each user
abbrev pub AreKept : ℕ → List Use → Stamps → List Window → Type 0
AreKept size log stamps windows = (q : ℕ) → q < length windows →
    IsKept size (seen_by q log) (stamps_of stamps q) (get_or windows q no_window)
