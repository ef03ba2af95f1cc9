use Rattle.std.proofs.Common.{◌+◌, ap, sym, ◌∙◌, arith}
use Rattle.std.specs.List.{find}
use Rattle.std.proofs.lemmas.List.{drop-map, length-map}
use Rattle.marked_list.specs.Recency.{index_of}
use Rattle.grid_core.specs.Slot.{slot_of, slots_at}
use Rattle.grid_core.specs.Slots.{holds}
use Rattle.grid_core.proofs.Fronts.{index-le}
use Rattle.grid_core.proofs.Positions.{find-behind, index-behind}
use Rattle.grid_core.proofs.slots.look.Goals as goal

pub fours-init : goal.fours-init
fours-init c =
    let s = c.args.sought in
    let p = holds s.block in
    let from = c.args.from in
    let ws = c.args.row.now in
    let cut = drop-map (slot_of s.stride s.sets s.set) from ws in
    let le = index-le p (slots_at s ws) in
    let long = length-map ws (slot_of s.stride s.sets s.set) in
    record {
      inside = omega arith;
      position = sym (ap (λ l. from + index_of p l) cut)
          ∙ index-behind p from (slots_at s ws) c.requires;
      found = sym (ap (find p) cut) ∙ find-behind p from (slots_at s ws) c.requires;
    }
