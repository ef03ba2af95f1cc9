use Rattle.std.proofs.Common.{[]}
use Rattle.grid_run.specs.Lanes.{task_of_plan}
use Rattle.grid_run.specs.Workers.{HasTakenUnlessFailed, worker_task}
use Rattle.grid_run.proofs.Each.{AreMade}
use Rattle.grid_run.proofs.crew.workers_for.Given as goal

-- there is a worker for each plan that was passed
abbrev pub invariant-loop-plan : goal.invariant-loop-plan
invariant-loop-plan l =
    AreMade worker_task task_of_plan (HasTakenUnlessFailed []) l.plans l.plan-index l.made.items
