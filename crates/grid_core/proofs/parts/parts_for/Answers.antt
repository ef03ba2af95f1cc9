use Rattle.std.proofs.Common.{◌≡◌, ◌<◌, ◌∷◌, ◌++◌, [], length, get_or, map, take, sym, ap}
use Rattle.std.proofs.Common.{subst}
use Rattle.std.proofs.Common.{◌∙◌, arith}
use Rattle.std.specs.List.{All}
use Rattle.std.proofs.lemmas.List.{map-append, map_more}
use Rattle.std.proofs.lemmas.List.Elements.{All-push, All-weaker}
use Rattle.cache_core.specs.Geometry.{bsize_of, blocks_of}
use Rattle.grid_core.specs.Standing.{rules_of_rows, stack_rules}
use Rattle.grid_core.specs.Shapes.{IsSuitedShape}
use Rattle.grid_core.specs.Cells.{IsPlacedAmong, shape_rules}
use Rattle.grid_core.specs.State.{IsRanked}
use Rattle.grid_core.proofs.Placed.{suited-placed}
use Rattle.grid_core.proofs.parts.parts_for.Goals as goal

pub loop-geometry-preserved : goal.loop-geometry-preserved
loop-geometry-preserved c =
    let i = c.loop-geometry.geometry-index in
    let gs = c.args.geometries.now in
    let e = c.geometry-item.result in
    let inside : i < length gs = omega arith in
    let old = c.loop-geometry.shapes.items in
    let new = c.push.new.self.items in
    let v = c.in_ok-shape.shape in
    let own = c.in_ok-shape.ensures.own in
    let is : new ≡ old ++ v ∷ [] = c.in_ok-push.ensures.items in
    let stacks = c.loop-geometry.stacks.items in
    let stacks' = c.shape_for.new.stacks.items in
    let wback = c.args.wback in
    let rule : shape_rules v ≡ stack_rules (get_or gs i e) wback =
    ap (λ g. stack_rules g v.wback) own.geometry
    ∙ ap (λ w. stack_rules e w) own.same_wback
    ∙ ap (λ g. stack_rules g wback) c.geometry-item.is in
    let sizes = c.args.sizes.now in
    let first = c.args.first in
    record {
      rules = ap (map shape_rules) is
          ∙ map-append shape_rules old (v ∷ [])
          ∙ ap (λ l. l ++ shape_rules v ∷ []) c.loop-geometry.invariant.rules
          ∙ ap (λ r. map (λ g. stack_rules g wback) (take i gs) ++ r ∷ []) rule
          ∙ sym (map_more (λ g. stack_rules g wback) gs i e inside);
      ranked = subst (All (IsRanked sizes first)) (sym is)
          (All-push (IsRanked sizes first) old v
          c.loop-geometry.invariant.ranked (record {
            inside = own.inside;
            found = own.found ∙ ap blocks_of (sym own.geometry);
            same = ap bsize_of own.geometry ∙ ap bsize_of c.geometry-item.is
                ∙ c.requires.one_size i e inside;
          }));
      suited = subst (All (IsSuitedShape stacks')) (sym is)
          (All-push (IsSuitedShape stacks') old v
          (All-weaker (IsSuitedShape stacks) (IsSuitedShape stacks')
          c.in_ok-shape.ensures.kept old c.loop-geometry.invariant.suited) own.suited);
      one_policy = subst (All (λ s. s.wback ≡ wback)) (sym is)
          (All-push (λ s. s.wback ≡ wback) old v
          c.loop-geometry.invariant.one_policy own.same_wback);
      one_size = c.in_ok-shape.ensures.sizes (bsize_of first)
          (ap bsize_of c.geometry-item.is ∙ c.requires.one_size i e inside)
          c.loop-geometry.invariant.one_size;
      empty = c.in_ok-shape.ensures.empty c.loop-geometry.invariant.empty;
    }

pub returns-clause-placed : goal.returns-clause-placed
returns-clause-placed c =
    let stacks = c.loop-geometry.stacks.items in
    All-weaker (IsSuitedShape stacks) (IsPlacedAmong (map rules_of_rows stacks))
    (suited-placed stacks)
    c.loop-geometry.shapes.items c.loop-geometry.invariant.suited
