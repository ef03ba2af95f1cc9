use Rattle.std.proofs.Common.{of_calls}
use Rattle.grid_run.proofs.Placed.{ok-so}
use Rattle.grid_run.proofs.Readings.{on-any}
use Rattle.grid_run.proofs.beside.take_beside.Goals as goal

pub returns-clause-far : goal.returns-clause-far
returns-clause-far g c =
    on-any c.join_mut-settled.result.1
    (ok-so c.join_mut-settled.result.0 c.in_ok-settled.was (search of_calls))
