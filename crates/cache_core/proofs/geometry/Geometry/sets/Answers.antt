use Rattle.std.proofs.Common.{◌/◌, sym, ap}
use Rattle.cache_core.specs.Geometry.{size_of, bsize_of, assoc_of}
use Rattle.cache_core.proofs.Masks.{set_is, shift_fits}
use Rattle.cache_core.proofs.geometry.Geometry.sets.Goals as goal

pub overflow_shr-result : goal.overflow_shr-result
overflow_shr-result c = let g = c.args.self.now in shift_fits g.size g.bsize g.assoc g.lawful

pub returns : goal.returns
unfolding size_of bsize_of assoc_of
returns c = let g = c.args.self.now in
    ap (λ n. g.size / n) (sym (set_is g.size g.bsize g.assoc g.lawful))
