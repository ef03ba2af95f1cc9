use Rattle.std.proofs.Common.{◌≡◌, ◌⊎◌, ◌+◌, ◌≤◌, ◌^◌, ◌++◌, List, length}
use Rattle.din_trace.specs.Source.{room_of}
use Rattle.din_trace.specs.declared.record.DinRecord.{DinRecord}
use Rattle.grid_run.specs.Readings.{HasRead}
use Rattle.grid_run.proofs.run.read_batch.Given as goal

-- the records of the batch were read behind those before
abbrev pub invariant-records : goal.invariant-records
invariant-records g l = record {
  read : (start : _) (past : List DinRecord)
      → HasRead g.R.ByteReader.remaining g.R.ByteReader.failures start l.fn.source past
      → HasRead g.R.ByteReader.remaining g.R.ByteReader.failures start l.source
      (past ++ l.batch.items);
  room : length l.batch.items + room_of l.source ≤ room_of l.fn.source;
  -- once a record was read, the source can give no more than a source may
  bounded : (l.source ≡ l.fn.source) ⊎ (room_of l.fn.source ≤ 2 ^ 40);
}

abbrev pub decreases-records : goal.decreases-records
decreases-records g l = room_of l.source
