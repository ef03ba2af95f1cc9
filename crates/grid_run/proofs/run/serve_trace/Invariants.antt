use Rattle.std.proofs.Common.{◌≡◌, ◌+◌, ◌≤◌, ◌^◌, ◌++◌, List, true, false, cond, length, map}
use Rattle.std.specs.List.{All}
use Rattle.din_trace.specs.Source.{room_of}
use Rattle.din_trace.specs.declared.record.DinRecord.{DinRecord}
use Rattle.grid_run.specs.Readings.{HasEnded, HasRead}
use Rattle.grid_run.specs.Workers.{HasTakenUnlessFailed, worker_task}
use Rattle.grid_run.proofs.run.serve_trace.Given as goal

-- the workers have taken some records, and those of the batch were read behind them
abbrev pub invariant-batches : goal.invariant-batches
invariant-batches g l = record {
  past : List DinRecord;
  taken : All (HasTakenUnlessFailed past) l.crew.workers.items;
  more : l.more ≡ true → HasRead g.R.ByteReader.remaining g.R.ByteReader.failures l.fn.source
      l.source (past ++ l.batch.items);
  ended : l.more ≡ false → HasEnded g.R.ByteReader.remaining g.R.ByteReader.failures l.fn.source
      l.source (past ++ l.batch.items);
  -- the records read and those that the source can still give are at most 2 ^ 40
  room : length past + length l.batch.items + room_of l.source ≤ 2 ^ 40;
  tasks : map worker_task l.crew.workers.items ≡ map worker_task l.fn.crew.workers.items;
}

abbrev pub decreases-batches : goal.decreases-batches
decreases-batches g l = room_of l.source + cond l.more 1 0
