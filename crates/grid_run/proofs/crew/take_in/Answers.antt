use Rattle.std.proofs.Common.{◌++◌, List}
use Rattle.std.specs.List.{All}
use Rattle.din_trace.specs.declared.record.DinRecord.{DinRecord}
use Rattle.grid_run.specs.Workers.{HasTakenUnlessFailed, worker_task}
use Rattle.grid_run.specs.declared.worker.Worker.{Worker}
use Rattle.grid_run.proofs.Slices.{on-items}
use Rattle.grid_run.proofs.crew.take_in.Goals as goal

pub returns-clause-taken : goal.returns-clause-taken
returns-clause-taken g c =
    let workers = c.args.workers.now in
    on-items worker_task workers.items _ _ workers.len
    (λ (old new : List Worker). (past : List DinRecord) → All (HasTakenUnlessFailed past) old
    → All (HasTakenUnlessFailed (past ++ c.args.batch.now)) new)
    workers.ok.0 c.deref_mut.ensures.value c.take_batch.ensures.tasks c.take_batch.ensures.taken
