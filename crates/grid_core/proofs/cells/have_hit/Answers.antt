use Rattle.std.proofs.Common.{◌&&◌, get_or, map, sym, subst, ap, ◌∙◌}
use Rattle.std.proofs.lemmas.List.{get_or_default}
use Rattle.std.proofs.lemmas.List.Folds.{list_all_more}
use Rattle.std.proofs.lemmas.List.Elements.{AllWithin-more}
use Rattle.grid_core.specs.Cells.{HitsIn, hit_at}
use Rattle.grid_core.specs.Standing.{HasMoved, found_in}
use Rattle.grid_core.proofs.Placed.{hit-here, inside-at, on-at}
use Rattle.grid_core.proofs.cells.have_hit.Goals as goal

pub has_hit-requires : goal.has_hit-requires
has_hit-requires c = on-at c.args.stacks.now c.args.shapes.now c.requires c.loop-shape.shape-index
    c.loop-shape-test.true c.shape-item.result c.shape-item.is c.index-stacks-shape.result
    c.index-stacks-shape.is

pub loop-shape-preserved : goal.loop-shape-preserved
loop-shape-preserved c =
    let shapes = c.args.shapes.now in
    let stacks = c.args.stacks.now in
    let i = c.loop-shape.shape-index in
    let v = c.shape-item.result in
    let w = c.index-stacks-shape.result in
    let lt = c.loop-shape-test.true in
    let inside = inside-at stacks shapes c.requires i lt v c.shape-item.is in
    record {
      all = list_all_more (hit_at (map found_in stacks)) shapes i v lt
          ∙ ap (λ t. t && hit_at (map found_in stacks) (get_or shapes i v))
          c.loop-shape.invariant.all
          ∙ ap (hit_at (map found_in stacks)) (sym c.shape-item.is)
          ∙ hit-here stacks v w c.index-stacks-shape.is inside
          ∙ sym c.has_hit.ensures.is ∙ c.if-not-has_hit.false;
      hits = λ h x moved.
          let here : HitsIn h x v = c.has_hit.ensures.hits c.if-not-has_hit.false h x
          (subst (HasMoved h x) (sym c.index-stacks-shape.is) (moved v.stack w inside)) in
          AllWithin-more (HitsIn h x) shapes 0 i (c.loop-shape.invariant.hits h x moved)
          (λ d. subst (HitsIn h x) (c.shape-item.is ∙ get_or_default shapes i v d lt) here);
    }
