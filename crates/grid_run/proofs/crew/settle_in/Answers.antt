use Rattle.std.proofs.Common.{List}
use Rattle.std.specs.List.{All}
use Rattle.din_trace.specs.declared.record.DinRecord.{DinRecord}
use Rattle.grid_run.specs.Workers.{HasSettledUnlessFailed, HasTakenUnlessFailed, worker_task}
use Rattle.grid_run.specs.declared.worker.Worker.{Worker}
use Rattle.grid_run.proofs.Slices.{on-items}
use Rattle.grid_run.proofs.crew.settle_in.Goals as goal

pub returns-clause-settled : goal.returns-clause-settled
returns-clause-settled g c =
    let workers = c.args.workers.now in
    on-items worker_task workers.items _ _ workers.len
    (λ (old new : List Worker). (past : List DinRecord) → All (HasTakenUnlessFailed past) old
    → All (HasSettledUnlessFailed past) new)
    workers.ok.0 c.deref_mut.ensures.value c.settle_each.ensures.tasks c.settle_each.ensures.settled
