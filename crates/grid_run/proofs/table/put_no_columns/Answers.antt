use Rattle.grid_run.specs.Table.{heads_of, no_columns, tabbed_words}
use Rattle.grid_run.proofs.table.put_no_columns.Goals as goal

pub returns-in-Plain : goal.returns-in-Plain
unfolding heads_of no_columns tabbed_words
returns-in-Plain g c = rw c.in-Plain.is c.put.ensures

pub returns-in-Full : goal.returns-in-Full
returns-in-Full g c = rw c.in-Full.is c.put_no_classes.ensures
