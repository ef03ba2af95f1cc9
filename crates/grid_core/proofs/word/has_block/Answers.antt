use Rattle.std.proofs.Common.{◌+◌, ◌-◌, ◌/◌, ◌%◌, ltb, sym, ap, ◌∙◌, arith}
use Rattle.std.specs.Prelude.{◌^◌}
use Rattle.grid_core.specs.Slot.{kept_in_set}
use Rattle.grid_core.proofs.Words.{holds-all, word-near}
use Rattle.grid_core.proofs.word.has_block.Goals as goal

pub returns : goal.returns
returns c =
    let w = c.args.word in
    let s = c.args.sought in
    let n = s.stride in
    let at = s.at in
    let two = s.some in
    let last = s.inside in
    ap (λ k. ltb ((w + (2 ^ 64 - (k + 1))) % 2 ^ 64) (n - 1)) at
    ∙ word-near n w (omega arith) (s.block / s.sets) two (omega arith) c.ranges.word.fits
    ∙ sym (holds-all s.sets s.set s.block s.many s.home (kept_in_set n w))
