use Rattle.std.proofs.Common.{◌≡◌, List, [], ◌∷◌, ◌++◌, subst, sym}
use Rattle.std.proofs.lemmas.List.Elements.{All-push}
use Rattle.std.proofs.lemmas.Slice.Zip.{all_zipped_more}
use Rattle.std.specs.List.{All, AllZip}
use Rattle.grid_run.specs.Grids.{IsBoundedRow}
use Rattle.grid_run.specs.declared.grid.Row.{Row}
use Rattle.dinero_grid.specs.AskedRows.{IsRowOf}
use Rattle.dinero_grid.proofs.asked.rows_of.Goals as goal

pub loop-point-preserved : goal.loop-point-preserved
loop-point-preserved c =
    let row = c.in_ok-row_of.field-0 in
    let rows = c.loop-point.rows.items in
    let zipped = all_zipped_more IsRowOf c.loop-point.yielded rows c.in-Some.point row
    c.loop-point.invariant.0 c.in_ok-row_of.ensures.row in
    let bounded = All-push IsBoundedRow rows row c.loop-point.invariant.1
    c.in_ok-row_of.ensures.bound in
    let all : c.push.new.self.items ≡ rows ++ row ∷ [] = c.in_ok-push.ensures.items in (
      subst (λ (rs : List Row). AllZip IsRowOf (c.loop-point.yielded ++ c.in-Some.point ∷ []) rs)
          (sym all) zipped,
      subst (λ (rs : List Row). All IsBoundedRow rs) (sym all) bounded,
    )
