-- A slot of a row, and the word that keeps it.
use Rattle.std.specs.Prelude.{ℕ, Bool, true, false, ◌/◌, ◌%◌, ◌+◌, ◌-◌, ◌*◌, ◌≤◌, ◌==◌, List, map}
use Rattle.std.specs.Prelude.{if◌then◌else◌}
use Rattle.cache_core.specs.declared.geometry.Geometry.{Geometry}
use Rattle.cache_core.specs.Geometry.{assoc_of, bsize_of, sets_of}
use Rattle.grid_core.specs.declared.sought.Sought.{Sought}

-- if it is valid, it holds a block, which is dirty in a cache of n ways just if its level is less
-- than n
pub record Slot : Type 0 where
  pub block : ℕ
  pub valid : Bool
  pub level : ℕ

-- a slot that holds block b, of this level
abbrev pub used_slot : ℕ → ℕ → Slot
used_slot b l = record { block = b; valid = true; level = l }

-- an empty slot
abbrev pub no_slot : Slot
no_slot = record { block = 0; valid = false; level = 0 }

-- how many bytes lie between two blocks of one set that follow one another
abbrev pub stride_of : Geometry → ℕ
stride_of g = sets_of g * bsize_of g

-- what a word keeps: an empty slot if it is a multiple of the stride; else a block, by its number
-- among those of its set, and a level, which is one less than the remainder
unfoldable pub kept_in_set : ℕ → ℕ → Slot
kept_in_set stride w =
    if w % stride == 0 then no_slot else used_slot (w / stride) (w % stride - 1)

-- the slot with the block by its number among all, where this is one of so many sets
abbrev pub among_all : ℕ → ℕ → Slot → Slot
among_all sets set s = record {
  block = if s.valid then s.block * sets + set else s.block;
  valid = s.valid;
  level = s.level;
}

-- the slot that a word keeps in a row
abbrev pub slot_of : ℕ → ℕ → ℕ → ℕ → Slot
slot_of stride sets set w = among_all sets set (kept_in_set stride w)

-- the slots that words keep in a row
abbrev pub slots_in : ℕ → ℕ → ℕ → List ℕ → List Slot
slots_in stride sets set ws = map (slot_of stride sets set) ws

-- those of the row in which a block is sought
abbrev pub slots_at : Sought → List ℕ → List Slot
slots_at s ws = slots_in s.stride s.sets s.set ws

-- words can keep the slots of a row with the ways of this geometry, whatever their levels are
abbrev pub HasWords : Geometry → Type 0
HasWords g = assoc_of g + 2 ≤ stride_of g
