use Rattle.std.proofs.Common.{◌≡◌, ◌++◌, ◌≤◌, ◌-◌, List, length, take}
use Rattle.din_trace.specs.declared.record.DinRecord.{DinRecord}
use Rattle.grid_run.specs.Workers.{HasTakenUnlessFailed, worker_task}
use Rattle.grid_run.proofs.worker.Worker.take_parts.Given as goal

-- the records of the parts that were passed were taken
abbrev pub invariant-parts : goal.invariant-parts
invariant-parts g l = record {
  taken : (past : List DinRecord) → HasTakenUnlessFailed past l.initial.self →
      HasTakenUnlessFailed (past ++ take l.taken l.batch) l.self;
  within : l.taken ≤ length l.batch;
  task : worker_task l.self ≡ worker_task l.initial.self;
}

-- each turn leaves fewer records
abbrev pub decreases-parts : goal.decreases-parts
decreases-parts g l = length l.batch - l.taken
