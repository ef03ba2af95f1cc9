-- A row of slots, and what one access does to it.
use Rattle.std.specs.Prelude.{ℕ, zero, suc, ◌*◌}
use Rattle.std.specs.Prelude.{Bool, false, not, ◌&&◌, ◌||◌, ◌==◌}
use Rattle.std.specs.Prelude.{nat_lt, if◌then◌else◌, get_or, ◌-◌, List, [], ◌∷◌, ◌++◌, length}
use Rattle.std.specs.Prelude.{take, min, filter, ◌+◌}
use Rattle.std.specs.List.{find}
use Rattle.std.specs.Option.{option_map_or}
use Rattle.cache_core.specs.Row.{shifted, row}
use Rattle.marked_list.specs.Recency.{index_of}
use Rattle.grid_core.specs.Slot.{Slot, used_slot, no_slot}
use Rattle.grid_core.specs.Pushed.{is_dirty_slot}

-- the slot holds block b
abbrev pub holds : ℕ → Slot → Bool
holds b s = s.valid && s.block == b

-- the dirty level of a slot
abbrev pub slot_level : Slot → ℕ
slot_level s = s.level

-- the dirty level of block b in a row, or the length of the row if it is not there
abbrev pub level_in : ℕ → List Slot → ℕ
level_in b row = option_map_or slot_level (find (holds b) row) (length row)

-- an access to block b leaves the row as it is: the block is the first, and if this is a write, its
-- level is 0
abbrev pub stays_in : ℕ → Bool → List Slot → Bool
stays_in b write row = index_of (holds b) row == 0 && (not write || level_in b row == 0)

-- the slot that leaves a row in which the block of an access has this position: none if it is there
abbrev pub lost_in : ℕ → List Slot → Slot
lost_in position row =
    if nat_lt position (length row) then no_slot else get_or row (length row - 1) no_slot

-- the dirty level after an access, by the level and the distance before it
abbrev pub level_after : Bool → ℕ → ℕ → ℕ
level_after write level distance =
    if write then 0 else (if nat_lt level distance then distance else level)

-- the number of ways up to which a block of this level is not dirty at this distance, of n ways
abbrev pub clean_in : ℕ → ℕ → ℕ → ℕ
clean_in level distance n = min (level_after false level distance) n

-- the row after an access to block b
abbrev pub next_slots : ℕ → Bool → List Slot → List Slot
next_slots b write row = shifted (holds b) (used_slot b (level_after write (level_in b row)
    (index_of (holds b) row))) row

module _ (wback : Bool) (n : ℕ) where
  -- how many slots of a row are dirty in a cache of n ways
  abbrev pub dirty_slot_count : List Slot → ℕ
  dirty_slot_count row = length (filter (is_dirty_slot wback n) row)

  -- the same of the first n slots of each row, from the first row on: the number says how many
  -- rows are gone through
  abbrev pub dirty_slot_count_in_rows : (ℕ → List Slot) → ℕ → ℕ
  dirty_slot_count_in_rows rows zero = 0
  dirty_slot_count_in_rows rows (suc k) =
      dirty_slot_count_in_rows rows k + dirty_slot_count (take n (rows k))

module _ (bsize : ℕ) (wback : Bool) (n : ℕ) where
  -- the first bytes of the blocks of a row that are dirty in a cache of n ways
  abbrev pub dirty_bytes : List Slot → List ℕ
  dirty_bytes [] = []
  dirty_bytes (s ∷ row) = if is_dirty_slot wback n s then s.block * bsize ∷ dirty_bytes row
      else dirty_bytes row

  -- the same of the first n slots of each row, from the first row on: the number says how many
  -- rows are gone through
  abbrev pub dirty_in_rows : (ℕ → List Slot) → ℕ → List ℕ
  dirty_in_rows rows zero = []
  dirty_in_rows rows (suc k) = dirty_in_rows rows k ++ dirty_bytes (take n (rows k))
