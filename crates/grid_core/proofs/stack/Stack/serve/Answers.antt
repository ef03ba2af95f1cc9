use Rattle.std.proofs.Common.{refl, ap, ◌∙◌, arith}
use Rattle.std.proofs.Math.Bridge.{le_prop}
use Rattle.std.proofs.Math.Logic.{∥∥₁_elim}
use Rattle.cache_core.specs.Geometry.{sets_of}
use Rattle.cache_core.specs.Row.{row}
use Rattle.grid_core.specs.Slot.{slots_in, stride_of}
use Rattle.grid_core.specs.Slots.{holds}
use Rattle.grid_core.specs.Standing.{found_in, row_slots, rules_of_rows}
use Rattle.grid_core.proofs.StackStep.{back-turned, clean-turned, distance-turned}
use Rattle.grid_core.proofs.StackStep.{row-room, row-whole, rows-turned, set-below}
use Rattle.grid_core.proofs.Counted.{counted-next}
use Rattle.grid_core.proofs.Fronts.{index-le}
use Rattle.grid_core.proofs.stack.Stack.serve.Goals as goal

pub turn_in-turned-requires-clause-room : goal.turn_in-turned-requires-clause-room
turn_in-turned-requires-clause-room c =
    row-room c.args.self.now c.sought-sought.result.block c.sought-sought.ensures.set

pub turn_in-turned-requires-clause-short : goal.turn_in-turned-requires-clause-short
turn_in-turned-requires-clause-short c =
    let short = c.args.self.now.short in
    let stride = c.sought-sought.ensures.stride in
    omega arith

pub turn_in-turned-requires-clause-far : goal.turn_in-turned-requires-clause-far
unfolding rules_of_rows
turn_in-turned-requires-clause-far c =
    let wide = c.args.self.now.width in
    let from = c.min-from.ensures in
    let e = c.sought-sought.ensures in
    rw (e.stride, e.sets) (∥∥₁_elim c.requires.behind le_prop (λ w.
    let at = distance-turned c.args.self.now w.0 w.1 c.args.access
    (e.block ∙ c.requires.block) e.set c.writes-write.ensures refl in
    let before = w.2 in
    omega arith))

pub returns-clause-stands : goal.returns-clause-stands
unfolding rules_of_rows
returns-clause-stands c = λ h st.
    let old = c.args.self.now in
    let g = old.geometry in
    let e = c.sought-sought.ensures in
    let turned = rw (e.stride, e.sets) at c.turn_in-turned.ensures in
    record {
      rows = rows-turned old h st c.args.access (e.block ∙ c.requires.block) e.set
          c.writes-write.ensures
          (λ t. slots_in (stride_of g) (sets_of g) t
          (row old.ways t c.turn_in-turned.new.slots.items))
          turned.slots
          (λ t apart. ap (slots_in (stride_of g) (sets_of g) t)
          (c.turn_in-turned.ensures.others t apart));
    }

pub returns-clause-moved : goal.returns-clause-moved
unfolding rules_of_rows found_in
returns-clause-moved c = λ h st.
    let old = c.args.self.now in
    let e = c.sought-sought.ensures in
    let turned = rw (e.stride, e.sets) at c.turn_in-turned.ensures in
    record {
      found = distance-turned old h st c.args.access (e.block ∙ c.requires.block) e.set
          c.writes-write.ensures turned.position;
      backs = back-turned old h st c.args.access (e.block ∙ c.requires.block) e.set
          c.writes-write.ensures _ _ turned.slots turned.lost;
    }

pub invariant_of-self-clause-inside : goal.invariant_of-self-clause-inside
invariant_of-self-clause-inside c =
    set-below c.args.self.now c.sought-sought.result.block c.sought-sought.ensures.set

pub note-requires-clause-distance : goal.note-requires-clause-distance
note-requires-clause-distance c =
    let old = c.args.self.now in
    let s = c.sought-sought.result in
    let e = c.sought-sought.ensures in
    let turned = rw (e.stride, e.sets) at c.turn_in-turned.ensures in
    let long = row-whole old s.set (set-below old s.block e.set) in
    let low = index-le (holds s.block) (row_slots old s.set) in
    let is = turned.position in
    let told = old.counted in
    omega arith

pub note-requires-clause-clean : goal.note-requires-clause-clean
note-requires-clause-clean c =
    let is = c.turn_in-turned.ensures.clean in
    let told = c.args.self.now.counted in
    omega arith

pub returns-clause-counted : goal.returns-clause-counted
unfolding rules_of_rows
returns-clause-counted c = λ sizes h st low counted.
    let old = c.args.self.now in
    let x = c.args.access in
    let result = c.turn_in-turned.result in
    let e = c.sought-sought.ensures in
    let turned = rw (e.stride, e.sets) at c.turn_in-turned.ensures in
    counted-next (rules_of_rows old) sizes h x old.histogram c.note.new.self result.position
    result.clean c.args.level
    (distance-turned old h st x (e.block ∙ c.requires.block) e.set c.writes-write.ensures
    turned.position)
    (clean-turned old h st x (e.block ∙ c.requires.block) e.set c.writes-write.ensures
    turned.clean)
    low c.note.ensures.past c.note.ensures.first counted
