use Rattle.std.proofs.Common.{rules}
use Rattle.grid_run.proofs.Crews.{same-tasks}
use Rattle.grid_run.proofs.crew.settle_each.Goals as goal

pub returns-clause-tasks : goal.returns-clause-tasks
returns-clause-tasks g c =
    same-tasks c.args.workers.now c.for_each_mut.new.s (search rules) (λ k d lt. search rules)
