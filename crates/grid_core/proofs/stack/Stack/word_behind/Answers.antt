use Rattle.std.proofs.Common.{◌+◌, ◌≤◌, ◌*◌, cond, drop, get_or, sym, ap, ◌∙◌, arith}
use Rattle.std.proofs.Math.Nat.{mul-le-mul_right}
use Rattle.std.proofs.Math.Seq.{get_or-take, get_or-drop}
use Rattle.std.proofs.lemmas.Bool.{lt-ltb}
use Rattle.std.proofs.lemmas.Grind.{get_or_default_zero}
use Rattle.cache_core.specs.Geometry.{sets_of}
use Rattle.cache_core.specs.Row.{row}
use Rattle.grid_core.specs.Slot.{no_slot, slot_of, stride_of}
use Rattle.grid_core.specs.Standing.{row_slots}
use Rattle.grid_core.proofs.WordRows.{get-slots}
use Rattle.grid_core.proofs.stack.Stack.word_behind.Goals as goal

pub returns-then-ways-self : goal.returns-then-ways-self
returns-then-ways-self c =
    let old = c.args.self.now in
    let g = old.geometry in
    let start = old.set * old.ways in
    let ws = old.slots.items in
    let lt = c.if-ways-self.true in
    let up : old.set + 1 ≤ sets_of g = let lt = old.inside in omega arith in
    let le = mul-le-mul_right old.ways up in
    let room = old.room in
    ap (slot_of (stride_of g) (sets_of g) old.set) (c.index.ensures
    ∙ get_or_default_zero ws (start + c.args.ways) _ (omega (arith, old.slots.ok.0))
    ∙ sym (get_or-drop start ws c.args.ways 0)
    ∙ sym (get_or-take old.ways (drop start ws) c.args.ways 0 lt))
    ∙ sym (get-slots (stride_of g) (sets_of g) old.set c.args.ways (row old.ways old.set ws))
    ∙ sym (ap (λ t. cond t (get_or (row_slots old old.set) c.args.ways no_slot)
    (slot_of (stride_of g) (sets_of g) old.set old.lost)) (lt-ltb c.args.ways old.ways lt))
