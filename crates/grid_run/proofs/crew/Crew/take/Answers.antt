use Rattle.std.proofs.Common.{◌++◌, List, subst}
use Rattle.std.specs.List.{All}
use Rattle.din_trace.specs.declared.record.DinRecord.{DinRecord}
use Rattle.grid_run.specs.Workers.{HasTakenUnlessFailed}
use Rattle.grid_run.proofs.Readings.{on-any}
use Rattle.grid_run.proofs.crew.Crew.take.Goals as goal

pub returns-clause-taken : goal.returns-clause-taken
returns-clause-taken g c =
    on-any c.tell_failure.result (λ past all.
    subst (λ (l : List DinRecord). All (HasTakenUnlessFailed (past ++ l))
    c.take_in.new.workers.items)
    c.deref.ensures.value (c.take_in.ensures.taken past all))
