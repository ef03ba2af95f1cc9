use Rattle.grid_run.proofs.WrittenWords.{classes-written}
use Rattle.grid_run.proofs.table.put_class_heads.Goals as goal

pub returns : goal.returns
returns g c =
    classes-written _ _ _ _ _ _ c.in_ok-put_head.ensures c.in_ok-put_class_head.ensures
    c.in_ok-put_class_head-2.ensures c.in_ok-put_class_head-3.ensures c.put_class_head-4.ensures
