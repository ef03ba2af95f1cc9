use Rattle.std.proofs.Common.{rules, ap, ◌∙◌, sym, subst, refl}
use Rattle.std.proofs.lemmas.Result.{IfOk-weaker, IfErr-weaker}
use Rattle.stage_core.specs.declared.totals.Totals.{Totals}
use Rattle.run_threads.specs.declared.pipeline.Settled.{Settled}
use Rattle.run_threads.specs.Faults.{IsFaultOfThreads, MayAnswer}
use Rattle.run_threads.specs.Machines.{machines_at, rings_at}
use Rattle.run_threads.proofs.Endings.{of-gravest}
use Rattle.run_threads.proofs.Wholes.{whole-run}
use Rattle.run_threads.proofs.pipeline.finish.Goals as goal

pub returns-in-Err-clause-met : goal.returns-in-Err-clause-met
returns-in-Err-clause-met g c =
    of-gravest IsFaultOfThreads tt tt c.gravest.result c.in-Err.fault c.why_stopped-i.result
    c.why_stopped-d.result c.why_stopped-merge.result (rw c.in-Err.is at c.requires.met)
    c.gravest.ensures.one

pub returns-in-Err-clause-answers : goal.returns-in-Err-clause-answers
returns-in-Err-clause-answers g c left may =
    of-gravest (MayAnswer left) tt tt c.gravest.result c.in-Err.fault c.why_stopped-i.result
    c.why_stopped-d.result c.why_stopped-merge.result (rw c.in-Err.is at may) c.gravest.ensures.one

pub returns-clause-fed : goal.returns-clause-fed
returns-clause-fed g c =
    IfOk-weaker c.settle.result _ _ (λ settled is. search rules) c.settle.ensures.settled

pub returns-clause-met : goal.returns-clause-met
returns-clause-met g c =
    IfErr-weaker c.settle.result _ _ (λ why is. subst IsFaultOfThreads (sym is) tt)
    c.settle.ensures.cut

pub returns-clause-answers : goal.returns-clause-answers
returns-clause-answers g c =
    IfErr-weaker c.settle.result _ _ (λ why is left may. subst (MayAnswer left) (sym is) tt)
    c.settle.ensures.cut

pub returns-clause-whole : goal.returns-clause-whole
returns-clause-whole g c =
    let ended = c.in_ok-i.ensures in
    let i = rw ended.i at c.join_stage-i.ensures in
    let d = rw ended.d at c.join_stage-d.ensures in
    let u = rw ended.merge at c.join_merge-merge.ensures in
    IfOk-weaker c.settle.result _ _ (λ (s : Settled) is ring room es new fed.
    whole-run c.stages_answer_their_streams.ensures c.merge_takes_the_requests.ensures es
    (machines_at c.args.started) new (rings_at c.args.started) _ s.rings i.stage
    d.stage u.u fed i.ended.served d.ended.served u.merged is.1 is.2 ring room refl s.totals
    (λ ms stands. ap (λ (t : Totals). t.i) is.0 ∙ i.counted ms stands)
    (λ ms stands. ap (λ (t : Totals). t.d) is.0 ∙ d.counted ms stands)
    (λ ws stands. ap (λ (t : Totals). t.u) is.0 ∙ u.counted ws stands)) c.settle.ensures.settled
