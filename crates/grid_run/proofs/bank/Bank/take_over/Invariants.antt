use Rattle.std.specs.Prelude.{⊤, ℕ, List}
use Rattle.std.specs.List.{All}
use Rattle.grid_core.proofs.ListLoops.{HasChanged}
use Rattle.grid_run.specs.Backs.{AreWaiting, HasNone, HasNumbers, RequestsFor, back_task}
use Rattle.grid_run.specs.Backs.{queue_seats}
use Rattle.grid_run.specs.declared.back.Back.{Back}
use Rattle.grid_run.specs.declared.queue.Queue.{Queue}
use Rattle.grid_run.proofs.LoopTurns.{TakesOver}
use Rattle.grid_run.proofs.bank.Bank.take_over.Given as goal

-- the second levels that were passed have taken over their queues, and the others are as they were
abbrev pub invariant-loop-index : goal.invariant-loop-index
invariant-loop-index l = record {
  queues : HasChanged (λ (old new : Queue). HasNone new) queue_seats l.initial.queues l.index
      l.queues;
  backs : HasChanged (λ (old new : Back). ⊤) back_task l.initial.back-items l.index l.back-items;
  asked : (blocks : List ℕ) (served all : RequestsFor) →
      All (AreWaiting served all) l.initial.queues → All (HasNumbers blocks) l.initial.queues →
      HasChanged (TakesOver blocks served all) back_task l.initial.back-items l.index l.back-items;
}
