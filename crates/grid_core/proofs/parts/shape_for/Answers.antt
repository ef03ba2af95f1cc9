use Rattle.std.proofs.Common.{◌≡◌, ◌<◌, ◌==◌, length, get_or, refl, sym, ap, subst, ◌∙◌}
use Rattle.cache_core.specs.Geometry.{blocks_of}
use Rattle.cache_core.proofs.Lawful.{sane_of}
use Rattle.marked_list.specs.Recency.{index_of}
use Rattle.grid_core.specs.Shapes.{IsSuited}
use Rattle.grid_core.proofs.Sizes.{index-inside, index-found}
use Rattle.grid_core.proofs.parts.shape_for.Goals as goal

pub returns-clause-own : goal.returns-clause-own
returns-clause-own c =
    let g = c.args.geometry in
    let sizes = c.args.sizes.now in
    let rank : c.rank_of.result ≡ index_of (λ m. m == blocks_of g) sizes = c.rank_of.ensures
    ∙ ap (λ n. index_of (λ m. m == n) sizes) c.blocks-2.ensures in
    let inside : c.rank_of.result < length sizes = subst (λ n. n < length sizes) (sym rank)
    (index-inside sizes (blocks_of g) c.requires.size) in
    let found : get_or sizes c.rank_of.result 0 ≡ blocks_of g = ap (λ n. get_or sizes n 0) rank
    ∙ index-found sizes (blocks_of g) c.requires.size in
    record {
      geometry = refl;
      same_wback = refl;
      suited = record {
        suited = subst (λ w. IsSuited c.stack_for.new.stacks.items g w c.args.wback
            c.in_ok-stack.stack) (sym c.assoc.ensures) c.in_ok-stack.ensures.suited;
        ways = c.assoc.ensures;
        some = subst (λ n. 0 < n) (sym c.assoc.ensures) (sane_of g).assoc_pos;
      };
      inside = inside;
      found = found;
    }

pub returns-clause-kept : goal.returns-clause-kept
returns-clause-kept c = λ s own. record {
  suited = c.in_ok-stack.ensures.kept s.geometry s.ways s.stack s.wback own.suited;
  ways = own.ways;
  some = own.some;
}
