-- How a mark for each size relates to the uses of blocks, the latest first.
use Rattle.std.specs.Prelude.{◌≡◌, ◌≢◌, ℕ, ◌-◌, ◌+◌, ◌<◌, ◌≤◌, Bool, false, not, nat_lt, List}
use Rattle.std.specs.Prelude.{length, take, get_or, Option, Some, None}
use Rattle.cache_core.specs.Residents.{distinct}
use Rattle.marked_list.specs.declared.marks.Mark.{Mark}
use Rattle.marked_list.specs.Uses.{dead, last_in, living, since}

-- the last use is at this place or after it
abbrev pub covers : ℕ → Option ℕ → Bool
covers place None = false
covers place (Some last) = not (nat_lt last place)

-- the blocks used from the place of the mark on are the first ones, as many as the size says
pub record IsMark (ms : List ℕ) (k : Mark) : Type 0 where
  pub some : 0 < k.size
  pub within : k.place ≤ length ms
  pub window : take k.size (living ms) ≡ living (since k.place ms)

-- A block is used after the uses ms. Its last use among them is this one, and they are of so many
-- blocks.
pub record IsUseAfter (ms : List ℕ) (b : ℕ) (last : Option ℕ) (used : ℕ) : Type 0 where
  pub low : b ≢ dead
  pub before : last ≡ last_in ms b
  pub many : used ≡ length (living ms)
  pub once : distinct (living ms) ≡ living ms

-- a mark for what lies past the end of a list
abbrev pub no_mark : Mark
no_mark = record { size = 0; place = 0 }

-- a mark of this size before any use
abbrev pub fresh_mark : ℕ → Mark
fresh_mark size = record { size = size; place = 0 }

-- the mark of the same size before any use
abbrev pub restarted : Mark → Mark
restarted k = record { size = k.size; place = 0 }

-- the size of a mark
abbrev pub mark_size : Mark → ℕ
mark_size k = k.size

-- each is a mark
abbrev pub AreMarks : List ℕ → List Mark → Type 0
AreMarks ms ks = (i : ℕ) → i < length ks → IsMark ms (get_or ks i no_mark)

-- each place is below this one
abbrev pub AreBelow : ℕ → List Mark → Type 0
AreBelow n ks = (i : ℕ) → i < length ks → (get_or ks i no_mark).place < n

-- the number of blocks after a use, by the last use of the block before it
abbrev pub counted_with : Option ℕ → ℕ → ℕ
counted_with None n = n + 1
counted_with (Some last) n = n

-- the mark of the same size where each of some blocks was used once
abbrev pub settled : ℕ → Mark → Mark
settled used k = record { size = k.size; place = used - k.size }
