use Rattle.std.proofs.Common.{rules, ◌≡◌, true, ap, sym, refl, ◌∙◌, subst, inl, inr}
use Rattle.std.proofs.lemmas.Bool.{cases_Bool}
use Rattle.std.proofs.lemmas.List.{nil_from_length}
use Rattle.std.proofs.lemmas.Result.{IfOk-weaker}
use Rattle.pipe_rings.specs.Rings.{received, SameRx}
use Rattle.pipe_rings.proofs.Ends.{tx_stays}
use Rattle.cache_core.specs.Standing.{rules_of}
use Rattle.stage_core.specs.Finishes.{EndOnce}
use Rattle.stage_core.specs.Standing.{took_finish}
use Rattle.stage_core.specs.Streams.{is_finish}
use Rattle.stage_core.specs.declared.message.ToStage.TheVariants as to_stage
use Rattle.stage_core.proofs.Stands.{same_stands}
use Rattle.run_threads.specs.Threads.{StageServed, StageServedAll}
use Rattle.run_threads.specs.Waits.{AnswersPublished, StageHasEnded}
use Rattle.run_threads.proofs.Serving.{grows, Serves, answers-more, serves-more, serves-finish}
use Rattle.run_threads.proofs.Serving.{served-publishes, unused-published}
use Rattle.run_threads.proofs.stage_thread.serve_all.Goals as goal
use Rattle.run_threads.proofs.stage_thread.serve_all.Goals.{After-finished, After-publish}
use Rattle.run_threads.proofs.stage_thread.serve_all.Given.{Over}

-- the stage after one message
served : (g : Over) (c : After-finished g)
    → Serves c.loop.stage c.loop.ends c.in_ok-message.message c.send_outbox.new.stage
    c.send_outbox.new.ends
served g c = record {
  from_splitter = subst (SameRx c.loop.ends.from_splitter)
      (sym c.send_outbox.ensures.from_splitter) c.in_ok-message.ensures.from_splitter;
  to_merge = tx_stays c.loop.ends.to_merge c.receive.new.ends.to_merge
      c.send_outbox.new.ends.to_merge c.receive.ensures.to_merge c.send_outbox.ensures.ring;
  got = ap received c.send_outbox.ensures.from_splitter ∙ c.in_ok-message.ensures.received;
  side = c.send_outbox.ensures.side ∙ c.on.ensures.side;
  rules = ap rules_of c.send_outbox.ensures.cache ∙ c.on.ensures.rules;
  sends = λ before stands. grows _ _ _ _ _ c.in_ok-send_outbox.ensures.sent
      (c.in-Ok.ensures.sent before stands) c.receive.ensures.sent;
  empty = c.in_ok-send_outbox.ensures.empty;
  stands = λ before stands. same_stands c.on.new.self c.send_outbox.new.stage _
      c.send_outbox.ensures.cache c.send_outbox.ensures.finish
      (c.in-Ok.ensures.stands before stands);
}

pub send_outbox-requires : goal.send_outbox-requires
send_outbox-requires g c = record {
  answered = answers-more c.args.stage.now c.args.ends.now c.loop.stage c.loop.ends
      c.in_ok-message.message c.on.new.self c.receive.new.ends c.loop.invariant.0
      c.in_ok-message.ensures.received c.on.ensures.side c.on.ensures.rules
      (rw (
        c.receive.ensures.sent,
        c.in-Ok.ensures.sent (received c.loop.ends.from_splitter) c.loop.invariant.0.stands,
      ) refl);
}

-- the stage after the last message
served-all : (g : Over) (c : After-finished g)
    → StageServed c.args.stage.now c.args.ends.now c.send_outbox.new.stage c.send_outbox.new.ends
served-all g c = serves-more c.args.stage.now c.args.ends.now c.loop.stage c.loop.ends
    c.in_ok-message.message c.send_outbox.new.stage c.send_outbox.new.ends c.loop.invariant.0
    (served g c)

pub publish-requires : goal.publish-requires
publish-requires g c =
    let c₁ = (goal.at.publish-requires g c).After-finished in
    record { answered = (served-all g c₁).answered }

-- the stage after it has published all answers
served-published : (g : Over) (c : After-publish g)
    → StageServed c.args.stage.now c.args.ends.now c.send_outbox.new.stage c.send_outbox.new.ends
    → StageServed c.args.stage.now c.args.ends.now c.send_outbox.new.stage c.publish.new.ends
served-published g c going = served-publishes c.args.stage.now c.args.ends.now
    c.send_outbox.new.stage c.send_outbox.new.ends c.publish.new.ends going
    c.publish.ensures.from_splitter c.publish.ensures.ring c.publish.ensures.sent

pub returns-then-finished-clause-ended : goal.returns-then-finished-clause-ended
returns-then-finished-clause-ended g c =
    let c₁ = (goal.at.returns-then-finished-clause-ended g c).After-finished in
    let c₂ = (goal.at.returns-then-finished-clause-ended g c).After-publish in
    let done : took_finish c.send_outbox.new.stage ≡ true = search rules in
    let ended = serves-finish c.args.stage.now c.args.ends.now c.loop.stage c.loop.ends
    c.in_ok-message.message c.send_outbox.new.stage c.send_outbox.new.ends c.loop.invariant.0
    c.loop.invariant.1.goes_on (served g c₁)
    (sym c.in-Ok.ensures.finish ∙ sym c.send_outbox.ensures.finish ∙ done) in
    IfOk-weaker c.publish.result (λ _. AnswersPublished c.publish.new.ends)
    (λ _. StageServedAll c.args.stage.now c.args.ends.now c.send_outbox.new.stage
    c.publish.new.ends)
    (λ _ published. record {
      served = served-published g c₂ (served-all g c₁);
      finish = subst (EndOnce is_finish to_stage.Finish)
          (sym (ap received c.publish.ensures.from_splitter)) ended.finish;
    }) c.publish.ensures.published

pub returns-then-finished-clause-rests : goal.returns-then-finished-clause-rests
returns-then-finished-clause-rests g c =
    let c₁ = (goal.at.returns-then-finished-clause-rests g c).After-finished in
    let c₂ = (goal.at.returns-then-finished-clause-rests g c).After-publish in
    let done : took_finish c.send_outbox.new.stage ≡ true = search rules in
    let now = served-published g c₂ (served-all g c₁) in
    IfOk-weaker c.publish.result (λ _. AnswersPublished c.publish.new.ends)
    (λ _. StageHasEnded c.send_outbox.new.stage c.publish.new.ends) (λ _ published. record {
      answered = now.answered;
      posted = now.empty;
      published = nil_from_length _ published.held;
      finish = sym now.stands.finish ∙ done;
    }) c.publish.ensures.published

pub loop-init : goal.loop-init
loop-init g c = (
  search rules,
  search rules,
  inr (unused-published c.args.ends.now c.requires.unused),
)

pub loop-preserved : goal.loop-preserved
loop-preserved g c =
    let c₁ = (goal.at.loop-preserved g c).After-finished in (
      serves-more c.args.stage.now c.args.ends.now c.loop.stage c.loop.ends c.in_ok-message.message
          c.send_outbox.new.stage c.send_outbox.new.ends c.loop.invariant.0 (served g c₁),
      search rules,
      elim (cases_Bool c.is_open.result) [
        | inl opens ↦ inl (c.is_open.ensures opens)
        | inr holds ↦ inr (c.in_ok-send_outbox.ensures.published (rw holds refl))
      ],
    )
