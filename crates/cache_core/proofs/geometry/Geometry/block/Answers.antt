use Rattle.std.proofs.Common.{◌/◌, ap, sym, arith}
use Rattle.cache_core.specs.Geometry.{bsize_of}
use Rattle.cache_core.proofs.Lawful.{lawful_is, power_of_zeros, zeros-lt}
use Rattle.cache_core.proofs.geometry.Geometry.block.Goals as goal

pub overflow_shr-result : goal.overflow_shr-result
overflow_shr-result c =
    let g = c.args.self.now in
    let law = lawful_is g.size g.bsize g.assoc g.lawful in
    let low = law.block_low in let high = law.block_high in
    zeros-lt g.bsize (omega arith) (omega arith)

pub returns : goal.returns
unfolding bsize_of
returns c =
    let g = c.args.self.now in
    let law = lawful_is g.size g.bsize g.assoc g.lawful in
    let high = law.block_high in
    ap (λ n. c.args.addr / n) (sym (power_of_zeros g.bsize (omega arith) law.block_power))
