use Rattle.grid_run.specs.Table.{heads_of, no_columns, tabbed_words}
use Rattle.din_trace.proofs.WritesLemmas.{writes_then}
use Rattle.grid_run.proofs.table.put_no_classes.Goals as goal

pub returns : goal.returns
unfolding heads_of no_columns tabbed_words
returns g c = writes_then _ _ _ c.in_ok-put.ensures c.put-2.ensures
