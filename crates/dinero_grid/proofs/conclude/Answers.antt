use Rattle.dinero_grid.proofs.conclude.Goals as goal

pub returns-in-Err-clause-line : goal.returns-in-Err-clause-line
returns-in-Err-clause-line g c = rw c.in-Err.is (c.fault_text.result, c.fault_text.ensures)
