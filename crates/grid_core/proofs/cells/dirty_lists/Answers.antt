use Rattle.std.proofs.Common.{List, get_or, map, sym, subst, ◌∙◌, ap, arith}
use Rattle.grid_core.specs.declared.cells.Shape.{Shape}
use Rattle.grid_core.specs.Standing.{rules_of_rows}
use Rattle.grid_core.specs.Cells.{IsPlacedAmong}
use Rattle.grid_core.proofs.cells.dirty_lists.Goals as goal

pub dirty_list-requires : goal.dirty_list-requires
dirty_list-requires c =
    let i = c.loop-shape.shape-index in
    let e = c.shape-item.result in
    subst (IsPlacedAmong (map rules_of_rows c.args.stacks.now.items)) (sym (c.shape-item.is
    ∙ ap (λ (l : List Shape). get_or l i e) c.deref-shape-items.ensures.value))
    (c.requires i e (omega arith))
