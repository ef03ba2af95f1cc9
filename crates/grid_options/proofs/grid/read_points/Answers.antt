use Rattle.std.proofs.Common.{◌+◌, List, [], ◌∷◌, ◌++◌, map, subst, sym, take}
use Rattle.std.proofs.lemmas.Slice.Zip.{all_zipped_more}
use Rattle.std.specs.List.{AllZip}
use Rattle.grid_options.specs.Grid.{IsPoint}
use Rattle.grid_options.specs.declared.grid.GridPoint.{GridPoint}
use Rattle.grid_options.proofs.ListLemmas.{seen_more}
use Rattle.grid_options.specs.Points.{texts_of}
use Rattle.grid_options.proofs.grid.read_points.Goals as goal

pub loop-texts-preserved : goal.loop-texts-preserved
loop-texts-preserved c =
    let R = IsPoint c.args.full c.args.shown.now in
    let xs = c.args.points.now in
    let i = c.loop-texts.texts-index in
    let x = c.texts-item.result in
    let p = c.in_ok-point_of.field-0 in
    let point : R (texts_of x) p = subst (λ ts. R (map (λ t. t.now) ts) p)
    c.as_slice.ensures.value c.in_ok-point_of.ensures in
    let zipped = all_zipped_more R (map texts_of (take i xs)) c.loop-texts.read.items (texts_of x) p
    c.loop-texts.invariant point in
    subst (λ ys. AllZip R (map texts_of (take (i + 1) xs)) ys)
    (sym {A = List GridPoint} c.in_ok-push.ensures.items)
    (subst (λ zs. AllZip R zs (c.loop-texts.read.items ++ p ∷ []))
    (sym (seen_more texts_of xs i x c.loop-texts-test.true c.texts-item.is)) zipped)
