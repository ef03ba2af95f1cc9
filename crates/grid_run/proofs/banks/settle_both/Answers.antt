use Rattle.std.proofs.Common.{of_calls}
use Rattle.grid_run.proofs.Placed.{ok-so}
use Rattle.grid_run.proofs.Readings.{on-any}
use Rattle.grid_run.proofs.banks.settle_both.Goals as goal

pub returns-clause-front : goal.returns-clause-front
returns-clause-front g c =
    on-any c.join_mut-one.result.1
    (ok-so c.join_mut-one.result.0 c.in_ok-one.was (search of_calls))
