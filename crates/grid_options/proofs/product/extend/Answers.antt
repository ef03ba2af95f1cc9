use Rattle.std.proofs.Common.{◌∙◌, ◌∷◌, ◌++◌, [], ap, ap₂, map, sym, take}
use Rattle.grid_options.specs.Grid.{extended}
use Rattle.grid_options.proofs.ListLemmas.{seen_more}
use Rattle.grid_options.specs.Points.{texts_of}
use Rattle.grid_options.proofs.ProductLemmas.{extended_more}
use Rattle.grid_options.proofs.product.extend.Goals as goal

pub loop-point-init : goal.loop-point-init
unfolding extended
loop-point-init c = ap (map texts_of) c.new-made.ensures.items

pub loop-point-preserved : goal.loop-point-preserved
loop-point-preserved c =
    let xs = c.args.points.now in
    let i = c.loop-point.point-index in
    let x = c.point-item.result in
    let vs = map (λ t. t.now) c.args.values.now in
    c.in_ok-add_points.ensures
    ∙ ap₂ (λ a p. a ++ map (λ v. p ++ v ∷ []) vs) c.loop-point.invariant
    (ap (map (λ t. t.now)) c.as_slice.ensures.value)
    ∙ sym (ap (λ ps. extended ps vs)
    (seen_more texts_of xs i x c.loop-point-test.true c.point-item.is)
    ∙ extended_more (map texts_of (take i xs)) (texts_of x) vs)
