use Rattle.grid_run.specs.Table.{columns_of}
use Rattle.grid_run.proofs.WrittenWords.{columns-written}
use Rattle.grid_run.proofs.table.put_columns.Goals as goal

pub returns : goal.returns
unfolding columns_of
returns g c =
    columns-written _ _ _ _ _ _ _ _ _ _ _ _ c.in_ok-put_counted.ensures
    c.in_ok-put_counted-2.ensures c.in_ok-put_miss_rate.ensures c.in_ok-put_counted-3.ensures
    c.in_ok-put_counted-4.ensures c.in_ok-put_counted-5.ensures c.in_ok-put_counted-6.ensures
    c.in_ok-put_count.ensures c.in_ok-put_count-2.ensures c.in_ok-put_count-3.ensures
    c.put_count-4.ensures
