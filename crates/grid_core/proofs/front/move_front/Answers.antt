use Rattle.std.proofs.Common.{◌-◌, ap, ◌∙◌, arith}
use Rattle.std.proofs.lemmas.List.{length-map}
use Rattle.cache_core.specs.Row.{shifted}
use Rattle.grid_core.specs.Slot.{slot_of, slots_at, used_slot}
use Rattle.grid_core.specs.Slots.{holds, level_after, level_in}
use Rattle.grid_core.proofs.Fronts.{index-le}
use Rattle.grid_core.proofs.SlotTurns.{after-le}
use Rattle.grid_core.proofs.WordRows.{index-words, shifted-words}
use Rattle.grid_core.proofs.front.move_front.Goals as goal

pub used_word-front-requires : goal.used_word-front-requires
used_word-front-requires c =
    let s = c.args.sought in
    let xs = slots_at s c.args.row.now in
    let long = length-map c.args.row.now (slot_of s.stride s.sets s.set) in
    let seen = c.args.seen in
    let short = c.requires.short in
    let low = c.requires.low in
    let is = c.requires.position in
    let inside = index-le (holds s.block) xs in
    let le = after-le c.args.write seen.level seen.position (s.stride - 2)
    (omega arith) (omega arith) in
    let e = c.level_now.ensures in
    omega arith

pub returns : goal.returns
returns c =
    let s = c.args.sought in
    let ws = c.args.row.now in
    let p = holds s.block in
    let seen = c.args.seen in
    ap (slots_at s) (c.bring_front.ensures (λ w. p (slot_of s.stride s.sets s.set w))
    (c.requires.position ∙ index-words s.stride s.sets s.set p ws))
    ∙ shifted-words s.stride s.sets s.set p c.used_word-front.result ws
    ∙ ap (λ v. shifted p v (slots_at s ws)) (c.used_word-front.ensures
    ∙ ap (used_slot s.block) (c.level_now.ensures
    ∙ ap (λ l. level_after c.args.write l seen.position) c.requires.level
    ∙ ap (level_after c.args.write (level_in s.block (slots_at s ws))) c.requires.position))
