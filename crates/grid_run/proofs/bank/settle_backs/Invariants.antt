use Rattle.grid_core.proofs.ListLoops.{HasChanged}
use Rattle.grid_run.specs.Backs.{back_task}
use Rattle.grid_run.proofs.LoopTurns.{Settles}
use Rattle.grid_run.proofs.bank.settle_backs.Given as goal

-- the second levels that were passed have settled, and the others are as they were
abbrev pub invariant-loop-back : goal.invariant-loop-back
invariant-loop-back l = HasChanged Settles back_task l.initial.backs l.back-index l.backs
