use Rattle.grid_core.proofs.ListLoops.{HasChanged}
use Rattle.grid_run.specs.Banks.{bank_task}
use Rattle.grid_run.proofs.LoopTurns.{SettlesBank}
use Rattle.grid_run.proofs.banks.settle_all.Given as goal

-- the banks that were passed have settled, and the others are as they were
abbrev pub invariant-loop-bank : goal.invariant-loop-bank
invariant-loop-bank l = HasChanged SettlesBank bank_task l.initial.banks l.bank-index l.banks
