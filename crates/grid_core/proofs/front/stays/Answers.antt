use Rattle.std.proofs.Common.{◌≡◌, ◌+◌, ◌*◌, ◌&&◌, ◌||◌, ◌==◌, not, ◌∙◌, sym, ap}
use Rattle.std.proofs.Common.{drop, get_or, arith}
use Rattle.std.proofs.Math.Seq.{get_or-take, get_or-drop}
use Rattle.std.proofs.lemmas.Grind.{get_or_default_zero}
use Rattle.std.proofs.lemmas.List.{length-map, length-take-le, length-drop}
use Rattle.cache_core.specs.Row.{row}
use Rattle.grid_core.specs.Slot.{Slot, no_slot, slot_of, slots_at}
use Rattle.grid_core.specs.Slots.{holds}
use Rattle.grid_core.proofs.SlotTurns.{stays-first}
use Rattle.grid_core.proofs.WordRows.{get-slots}
use Rattle.grid_core.proofs.front.stays.Goals as goal

pub returns : goal.returns
returns c =
    let s = c.args.sought in
    let b = s.block in
    let ways = c.args.ways in
    let start = c.args.set * ways in
    let slots = c.args.slots.now in
    let ws = row ways c.args.set slots.items in
    let some = c.requires.some in
    let room = c.requires.room in
    let rest = length-drop start slots.items in
    let long = length-take-le ways (drop start slots.items) (omega (arith, slots.ok.0)) in
    let size = length-map ws (slot_of s.stride s.sets s.set) in
    let here : start ≡ start + 0 = omega arith in
    let at : slot_of s.stride s.sets s.set c.index.result.now
    ≡ get_or (slots_at s ws) 0 no_slot =
    ap (slot_of s.stride s.sets s.set)
    (c.index.ensures ∙ get_or_default_zero slots.items start _ (omega (arith, slots.ok.0))
    ∙ ap (λ k. get_or slots.items k 0) here ∙ sym (get_or-drop start slots.items 0 0)
    ∙ sym (get_or-take ways (drop start slots.items) 0 0 some))
    ∙ sym (get-slots s.stride s.sets s.set 0 ws) in
    c.keeps.ensures
    ∙ ap (λ (v : Slot). holds b v && (not c.args.write || v.level == 0)) at
    ∙ stays-first b c.args.write (slots_at s ws) no_slot (omega arith)
