use Rattle.std.proofs.Common.{◌≡◌, ◌≤◌, ◌*◌}
use Rattle.cache_core.specs.Row.{row}
use Rattle.grid_core.specs.Slot.{slots_in}
use Rattle.grid_core.specs.Slots.{dirty_slot_count_in_rows}
use Rattle.grid_core.proofs.slots.count_dirty.Given as goal

-- the slots of the sets that were passed are counted
abbrev pub invariant-loop-set : goal.invariant-loop-set
invariant-loop-set l = record {
  counted : l.count ≡ dirty_slot_count_in_rows l.wback l.ways
      (λ t. slots_in l.stride l.sets t (row l.most t l.slots.items)) l.set;
  few : l.count ≤ l.set * l.most;
}
