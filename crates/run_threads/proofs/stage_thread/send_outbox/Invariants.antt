use Rattle.std.proofs.Common.{◌≡◌, ◌++◌, length}
use Rattle.pipe_rings.specs.Rings.{sent, HasRoom, SameTx}
use Rattle.stage_core.specs.Standing.{cache_of, side_of, outbox_of, took_finish}
use Rattle.run_threads.proofs.stage_thread.send_outbox.Given as goal

abbrev pub invariant-loop-message : goal.invariant-loop-message
invariant-loop-message g l = record {
  from_splitter : l.ends.from_splitter ≡ l.fn.ends.from_splitter;
  ring : SameTx l.fn.ends.to_merge l.ends.to_merge;
  room : HasRoom l.ends.to_merge;
  sends : sent l.ends.to_merge ++ outbox_of l.stage
      ≡ sent l.fn.ends.to_merge ++ outbox_of l.fn.stage;
  cache : cache_of l.stage ≡ cache_of l.fn.stage;
  side : side_of l.stage ≡ side_of l.fn.stage;
  finish : took_finish l.stage ≡ took_finish l.fn.stage;
}

abbrev pub decreases-loop-message : goal.decreases-loop-message
decreases-loop-message g l = length (outbox_of l.stage)
