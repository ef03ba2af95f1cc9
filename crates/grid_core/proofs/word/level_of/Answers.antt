use Rattle.std.proofs.Common.{◌≡◌, ℕ, ◌+◌, ◌-◌, ◌/◌, ◌<◌, true, sym, ap, ◌∙◌, arith}
use Rattle.grid_core.specs.declared.sought.Sought.{Sought}
use Rattle.grid_core.specs.Slot.{kept_in_set, slot_of}
use Rattle.grid_core.specs.Slots.{holds}
use Rattle.grid_core.proofs.Words.{holds-all, word-inside, word-level}
use Rattle.grid_core.proofs.word.level_of.Goals as goal

-- a word whose slot holds the block that is sought
module _ (s : Sought) (w : ℕ)
    (has : holds s.block (slot_of s.stride s.sets s.set w) ≡ true) where
  held : holds (s.block / s.sets) (kept_in_set s.stride w) ≡ true
  held = sym (holds-all s.sets s.set s.block s.many s.home (kept_in_set s.stride w)) ∙ has

  -- it is above the base, by less than the stride
  above : (s.base < w) × (w < s.base + s.stride)
  above =
      let at = s.at in
      let inside = word-inside s.stride w (omega (arith, s.some)) (s.block / s.sets) held in
      let low = inside.0 in
      let high = inside.1 in (omega arith, omega arith)

pub overflow_sub-result : goal.overflow_sub-result
overflow_sub-result c =
    let low = (above c.args.sought c.args.word c.requires).0 in
    omega arith

pub overflow_sub-result-2 : goal.overflow_sub-result-2
overflow_sub-result-2 c =
    let low = (above c.args.sought c.args.word c.requires).0 in
    omega arith

pub returns-clause-level : goal.returns-clause-level
returns-clause-level c =
    let s = c.args.sought in
    ap (λ k. c.args.word - k - 1) s.at
    ∙ sym (word-level s.stride c.args.word (omega (arith, s.some)) (s.block / s.sets)
    (held s c.args.word c.requires))

pub returns-clause-low : goal.returns-clause-low
returns-clause-low c =
    let high = (above c.args.sought c.args.word c.requires).1 in
    omega arith
