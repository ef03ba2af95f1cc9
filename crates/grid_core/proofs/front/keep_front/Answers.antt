use Rattle.std.proofs.Common.{◌∷◌, drop, sym, ap, ◌∙◌}
use Rattle.std.proofs.Common.{arith}
use Rattle.std.proofs.lemmas.List.{length-map}
use Rattle.grid_core.specs.Slot.{slot_of, slots_at}
use Rattle.grid_core.specs.Slots.{next_slots}
use Rattle.grid_core.proofs.Fronts.{read-first, write-empty, write-first}
use Rattle.grid_core.proofs.WordRows.{first-word}
use Rattle.grid_core.proofs.front.keep_front.Goals as goal
use Rattle.grid_core.proofs.front.keep_front.Goals.{else-write-via-then-write+else-row-gt0}
use Rattle.grid_core.proofs.front.keep_front.Goals.{else-write-via-else-write}

pub returns-else-write : goal.returns-else-write
returns-else-write c =
    let s = c.args.sought in
    let xs = slots_at s c.args.row.now in
    let long = length-map c.args.row.now (slot_of s.stride s.sets s.set) in
    elim c.else-write.branch [
      | else-write-via-then-write+else-row-gt0 w ↦ sym (write-empty s.block c.args.write xs (omega (
        arith,
        long,
        w.if-row-gt0.false,
      )))
      | else-write-via-else-write w ↦ sym (ap (λ t. next_slots s.block t xs) w.if-write.false
          ∙ read-first s.block xs c.requires.first)
    ]

pub returns-then-row-gt0 : goal.returns-then-row-gt0
returns-then-row-gt0 c =
    let s = c.args.sought in
    let ws = c.args.row.now in
    let xs = slots_at s ws in
    let long = length-map ws (slot_of s.stride s.sets s.set) in
    let some = c.if-row-gt0.true in
    first-word s.stride s.sets s.set c.used_word.result ws (omega arith)
    ∙ ap (λ v. v ∷ drop 1 xs) c.used_word.ensures
    ∙ sym (ap (λ t. next_slots s.block t xs) c.if-write.true
    ∙ write-first s.block xs c.requires.first (omega arith))
