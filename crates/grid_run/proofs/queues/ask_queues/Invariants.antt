use Rattle.cache_core.specs.Lists.{IsBeginning}
use Rattle.grid_core.specs.Numbered.{blocks_in}
use Rattle.grid_core.proofs.ListLoops.{HasChanged}
use Rattle.grid_run.specs.Backs.{queue_seats}
use Rattle.grid_run.proofs.LoopTurns.{Asks}
use Rattle.grid_run.proofs.queues.ask_queues.Given as goal

-- the queues that were passed took what was sent, and the others are as they were; there may be
-- more numbers of blocks
abbrev pub invariant-loop-queue : goal.invariant-loop-queue
invariant-loop-queue l = record {
  changed : HasChanged (Asks l.fn.side l.fronts (blocks_in l.initial.numbers) (blocks_in l.numbers))
      queue_seats l.initial.queue-items l.queue-index l.queue-items;
  grows : IsBeginning (blocks_in l.initial.numbers) (blocks_in l.numbers);
}
