use Rattle.std.proofs.Common.{sym, subst, ◌∙◌}
use Rattle.std.proofs.lemmas.List.Elements.{AllWithin-more, at_read}
use Rattle.grid_run.specs.Workers.{HasSettledUnlessFailed, WorkerHasServed}
use Rattle.grid_run.proofs.crew.tell_failure.Goals as goal

pub loop-worker-preserved : goal.loop-worker-preserved
loop-worker-preserved c = λ past all.
    let workers = c.args.workers.now in
    let k = c.loop-worker.worker-index in
    let w = c.worker-item.result in
    let may = subst (HasSettledUnlessFailed past) (sym c.worker-item.is)
    (all k w c.loop-worker-test.true) in
    AllWithin-more (WorkerHasServed past) workers 0 k (c.loop-worker.invariant past all)
    (at_read workers (WorkerHasServed past) k w c.loop-worker-test.true c.worker-item.is
    (record { lane = may.lane (sym c.has_failed.ensures ∙ c.if-has_failed.false) }))
