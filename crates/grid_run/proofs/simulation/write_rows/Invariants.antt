use Rattle.std.proofs.Common.{◌≡◌, List, take}
use Rattle.std.specs.List.{All, flat_map}
use Rattle.std.specs.Io.KnownBytes.{Appends}
use Rattle.din_trace.specs.declared.record.DinRecord.{DinRecord}
use Rattle.grid_run.specs.Grids.{row_line}
use Rattle.grid_run.specs.Workers.{WorkerHasServed}
use Rattle.grid_run.proofs.simulation.write_rows.Given as goal

-- the lines of the rows that were passed are written
abbrev pub invariant-loop-index : goal.invariant-loop-index
invariant-loop-index g l = record {
  grown : (rs : List DinRecord) → All (WorkerHasServed rs) l.workers →
      Appends (g.W.ByteWriter.contents l.initial.writer) (g.W.ByteWriter.contents l.writer)
      (flat_map (row_line l.columns rs) (take l.index l.rows));
  sound : g.W.ByteWriter.failures l.writer ≡ g.W.ByteWriter.failures l.initial.writer;
}
