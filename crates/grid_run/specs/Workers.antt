-- The lanes of a grid, each the work of a worker.
use Rattle.std.specs.Prelude.{◌≡◌, false, List}
use Rattle.din_trace.specs.declared.record.DinRecord.{DinRecord}
use Rattle.grid_run.specs.Lanes.{AllLevelsHaveServed, FirstLevelsHaveServed, LaneTask, lane_task}
use Rattle.grid_run.specs.declared.worker.Worker.{Worker}

-- what a worker's lane does
unfoldable pub worker_task : Worker → LaneTask
worker_task w = lane_task w.lane

-- all caches of a worker have served what is selected of these records
pub record WorkerHasServed (records : List DinRecord) (w : Worker) : Type 0 where
  pub lane : AllLevelsHaveServed records w.lane

-- a worker has taken these records, unless it was refused memory: its first levels have served what
-- is selected of them
pub record HasTakenUnlessFailed (records : List DinRecord) (w : Worker) : Type 0 where
  pub lane : w.failed ≡ false → FirstLevelsHaveServed records w.lane

-- all its caches have served what is selected of these records, unless it was refused memory
pub record HasSettledUnlessFailed (records : List DinRecord) (w : Worker) : Type 0 where
  pub lane : w.failed ≡ false → AllLevelsHaveServed records w.lane
