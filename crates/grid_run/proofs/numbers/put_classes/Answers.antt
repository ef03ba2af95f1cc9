use Rattle.grid_run.proofs.WrittenWords.{classes-written}
use Rattle.grid_run.proofs.numbers.put_classes.Goals as goal

pub returns : goal.returns
returns g c =
    classes-written _ _ _ _ _ _ c.in_ok-put_total.ensures c.in_ok-put_count.ensures
    c.in_ok-put_count-2.ensures c.in_ok-put_count-3.ensures c.put_count-4.ensures
