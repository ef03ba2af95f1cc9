use Rattle.std.proofs.Common.{◌≤◌, ◌*◌, ap, ◌∙◌, arith}
use Rattle.std.proofs.Math.Nat.{mul-le-mul_right}
use Rattle.std.specs.Option.{option_map}
use Rattle.cache_core.specs.Geometry.{bsize_of, sets_of}
use Rattle.grid_core.specs.Pushed.{dirty_in}
use Rattle.grid_core.specs.Slot.{slot_of}
use Rattle.grid_core.proofs.Strides.{stride-high, stride-power}
use Rattle.grid_core.proofs.stack.Stack.back.Goals as goal

pub dirty_byte-requires-clause-power : goal.dirty_byte-requires-clause-power
dirty_byte-requires-clause-power c =
    let old = c.args.self.now in
    rw old.apart (stride-power old.geometry)

pub overflow_mul-start : goal.overflow_mul-start
overflow_mul-start c =
    let old = c.args.self.now in
    let g = old.geometry in
    let inside = old.inside in
    let high = stride-high g in
    let is = c.bsize.ensures in
    let up : old.set * bsize_of g ≤ sets_of g * bsize_of g =
    mul-le-mul_right (bsize_of g) (omega arith) in
    rw is (omega arith)

pub returns : goal.returns
returns c =
    let old = c.args.self.now in
    let g = old.geometry in
    c.dirty_byte.ensures (bsize_of g) (sets_of g) old.set old.apart
    (ap (λ n. old.set * n) c.bsize.ensures)
    ∙ ap (λ n. option_map (λ b. b * bsize_of g) (dirty_in old.wback c.args.ways
    (slot_of n (sets_of g) old.set c.word_behind-word.result))) old.apart
    ∙ ap (λ v. option_map (λ b. b * bsize_of g) (dirty_in old.wback c.args.ways v))
    c.word_behind-word.ensures
