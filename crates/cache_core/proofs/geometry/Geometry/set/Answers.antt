use Rattle.std.proofs.Common.{◌≤◌, ◌-◌, sym, ap, subst, ◌∙◌}
use Rattle.std.specs.Prelude.{bit_and}
use Rattle.cache_core.specs.Geometry.{size_of, bsize_of, assoc_of}
use Rattle.cache_core.proofs.Lawful.{sane_of}
use Rattle.cache_core.proofs.Masks.{masked}
use Rattle.cache_core.proofs.geometry.Geometry.set.Goals as goal

pub overflow_sub-result : goal.overflow_sub-result
overflow_sub-result c = subst (λ n. 1 ≤ n) (sym c.sets.ensures) (sane_of c.args.self.now).sets_pos

pub returns : goal.returns
unfolding size_of bsize_of assoc_of
returns c =
    let g = c.args.self.now in
    ap (λ n. bit_and c.args.block (n - 1)) c.sets.ensures
    ∙ masked g.size g.bsize g.assoc g.lawful c.args.block
