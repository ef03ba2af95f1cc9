use Rattle.std.proofs.Common.{List, sym, subst}
use Rattle.std.specs.List.{All}
use Rattle.std.proofs.lemmas.Result.{on_ok_weaker}
use Rattle.grid_run.specs.Workers.{HasSettledUnlessFailed, WorkerHasServed}
use Rattle.grid_run.specs.declared.worker.Worker.{Worker}
use Rattle.grid_run.proofs.crew.Crew.settle.Goals as goal

pub returns-clause-settled : goal.returns-clause-settled
returns-clause-settled g c =
    on_ok_weaker c.tell_failure.result (λ well past all.
    subst (λ (l : List Worker). All (WorkerHasServed past) l) c.deref.ensures.value
    (well past
    (subst (λ (l : List Worker). All (HasSettledUnlessFailed past) l) (sym c.deref.ensures.value)
    (c.settle_in.ensures.settled past all)))) c.tell_failure.ensures
