use Rattle.din_trace.proofs.WritesLemmas.{writes_as}
use Rattle.grid_run.proofs.TableLemmas.{word-last}
use Rattle.grid_run.proofs.numbers.put_counted.Goals as goal

pub returns-in-Plain : goal.returns-in-Plain
returns-in-Plain g c = rw c.in-Plain.is (writes_as _ _ _ (word-last _) c.put_total.ensures)

pub returns-in-Full : goal.returns-in-Full
returns-in-Full g c = rw c.in-Full.is c.put_classes.ensures
