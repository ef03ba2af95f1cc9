use Rattle.std.proofs.Common.{◌<◌, sym, subst, arith}
use Rattle.std.proofs.Math.Pow.{pow_pos}
use Rattle.grid_core.proofs.Strides.{last-byte}
use Rattle.grid_core.proofs.Words.{parts-of}
use Rattle.grid_core.proofs.word.first_byte_of.Goals as goal

pub overflow_sub-result : goal.overflow_sub-result
overflow_sub-result c =
    let power = c.requires.power in
    let some : 0 < c.args.stride = subst (λ m. 0 < m) (sym power.1) (pow_pos power.0) in
    let all = parts-of c.args.stride c.args.word some in
    let is = c.above.ensures in
    omega arith

pub overflow_add-result : goal.overflow_add-result
overflow_add-result c =
    let power = c.requires.power in
    let some : 0 < c.args.stride = subst (λ m. 0 < m) (sym power.1) (pow_pos power.0) in
    let all = parts-of c.args.stride c.args.word some in
    let last = last-byte c.args.stride power.0 c.args.word power.1 power.2 c.ranges.word.fits in
    let low = c.requires.inside in
    let is = c.above.ensures in
    omega arith

pub returns : goal.returns
returns c =
    let power = c.requires.power in
    let some : 0 < c.args.stride = subst (λ m. 0 < m) (sym power.1) (pow_pos power.0) in
    let all = parts-of c.args.stride c.args.word some in
    let is = c.above.ensures in
    omega arith
