use Rattle.std.proofs.Common.{◌≡◌, ◌*◌, ◌∙◌, ap, arith}
use Rattle.cache_core.specs.Geometry.{sets_of}
use Rattle.grid_core.specs.Slot.{stride_of}
use Rattle.grid_core.proofs.Strides.{stride-high}
use Rattle.grid_core.proofs.plan.has_row.Goals as goal

pub overflow_mul-result : goal.overflow_mul-result
overflow_mul-result c =
    let g = c.args.geometry in
    let high = stride-high g in
    let is : c.sets.result * c.bsize.result ≡ stride_of g =
    ap (λ k. k * c.bsize.result) c.sets.ensures ∙ ap (λ k. sets_of g * k) c.bsize.ensures in
    omega arith
