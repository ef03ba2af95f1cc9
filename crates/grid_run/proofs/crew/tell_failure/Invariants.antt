use Rattle.std.proofs.Common.{List}
use Rattle.std.specs.List.{All, AllWithin}
use Rattle.din_trace.specs.declared.record.DinRecord.{DinRecord}
use Rattle.grid_run.specs.Workers.{HasSettledUnlessFailed, WorkerHasServed}
use Rattle.grid_run.proofs.crew.tell_failure.Given as goal

-- none of the workers that were passed was refused memory
abbrev pub invariant-loop-worker : goal.invariant-loop-worker
invariant-loop-worker l = (past : List DinRecord) → All (HasSettledUnlessFailed past) l.workers →
    AllWithin (WorkerHasServed past) l.workers 0 l.worker-index
