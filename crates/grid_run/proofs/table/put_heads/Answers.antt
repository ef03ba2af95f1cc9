use Rattle.grid_run.specs.Table.{heads_of}
use Rattle.grid_run.proofs.WrittenWords.{columns-written}
use Rattle.grid_run.proofs.table.put_heads.Goals as goal

pub returns : goal.returns
unfolding heads_of
returns g c =
    columns-written _ _ _ _ _ _ _ _ _ _ _ _ c.in_ok-put_counted_heads.ensures
    c.in_ok-put_counted_heads-2.ensures c.in_ok-put_head.ensures
    c.in_ok-put_counted_heads-3.ensures c.in_ok-put_counted_heads-4.ensures
    c.in_ok-put_counted_heads-5.ensures c.in_ok-put_counted_heads-6.ensures
    c.in_ok-put_head-2.ensures c.in_ok-put_head-3.ensures c.in_ok-put_head-4.ensures
    c.put_head-5.ensures
