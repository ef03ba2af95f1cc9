use Rattle.std.proofs.Common.{◌≡◌, ℕ, ◌≤◌, ◌+◌, drop}
use Rattle.grid_core.specs.Slot.{slots_in}
use Rattle.grid_core.specs.Slots.{dirty_slot_count}
use Rattle.grid_core.proofs.slots.count_in.Given as goal

-- the slots so far, and then what is left of the row gives, are those of the row
abbrev pub invariant-loop-word : goal.invariant-loop-word
invariant-loop-word l = record {
  counted : (sets set : ℕ) → l.count
      + dirty_slot_count l.wback l.ways (slots_in l.stride sets set (drop l.word-index l.row))
      ≡ dirty_slot_count l.wback l.ways (slots_in l.stride sets set l.row);
  few : l.count ≤ l.word-index;
}
