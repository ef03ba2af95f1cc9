use Rattle.std.proofs.Common.{◌≡◌, ℕ, ◌<◌, List, length, map, ap, sym, subst, ◌∙◌, arith, get_or}
use Rattle.std.proofs.lemmas.List.{get_or-map, length-map}
use Rattle.grid_core.proofs.ListLoops.{all_changed, changed_more, next}
use Rattle.grid_run.specs.Backs.{AreWaiting, HasNumbers, back_seats, queue_seats, seats_of_shared}
use Rattle.grid_run.specs.Banks.{bank_task}
use Rattle.grid_run.specs.declared.back.Back.{Back}
use Rattle.grid_run.specs.declared.bank.Bank.{Bank}
use Rattle.grid_run.specs.declared.queue.Queue.{Queue}
use Rattle.grid_run.proofs.BankLemmas.{seats-of-bank}
use Rattle.grid_run.proofs.bank.Bank.take_over.Goals as goal

module _ (qs : List Queue) (bank : Bank) (k : ℕ) (lt : k < length bank.backs.items)
    (same : map queue_seats qs ≡ map seats_of_shared (bank_task bank)) where
  -- there is a queue where there are second levels
  queue-inside : k < length qs
  queue-inside =
      omega (
        arith,
        lt,
        ap length (same ∙ seats-of-bank bank),
        length-map qs queue_seats,
        length-map bank.backs.items back_seats,
      )

  -- behind the same seats
  same-seats : (q : Queue) (b : Back)
      → queue_seats (get_or qs k q) ≡ back_seats (get_or bank.backs.items k b)
  same-seats q b =
      sym (get_or-map queue_seats qs k q (queue_seats q) queue-inside)
      ∙ ap (λ ps. get_or ps k (queue_seats q)) (same ∙ seats-of-bank bank)
      ∙ get_or-map back_seats bank.backs.items k b (queue_seats q) lt

pub take_over-requires-clause-seats : goal.take_over-requires-clause-seats
take_over-requires-clause-seats c =
    let lent = c.deref_mut-back-items.ensures.value in
    let b = c.back-item.result in
    same-seats c.loop-index.queues c.args.self.now c.loop-index.index
    (omega (arith, c.loop-index-test.true, ap length lent))
    (c.loop-index.invariant.queues.told ∙ c.requires.seats) c.index-queues-index.result b
    ∙ ap back_seats (sym (next c.loop-index.invariant.backs lent b))

pub loop-index-preserved : goal.loop-index-preserved
loop-index-preserved c =
    let k = c.loop-index.index in
    let now = c.loop-index.invariant in
    let q = c.index-queues-index.result in
    let b = c.back-item.result in
    let x = c.take_over.new.self in
    let bank = c.args.self.now in
    let inside : k < length bank.backs.items =
    omega (arith, c.loop-index-test.true, ap length c.deref_mut-back-items.ensures.value) in
    record {
      queues = changed_more now.queues q c.take_over.new.queue
          (queue-inside c.loop-index.queues bank k inside (now.queues.told ∙ c.requires.seats))
          c.take_over.ensures.seats c.take_over.ensures.none;
      backs = changed_more now.backs b x (omega arith) c.take_over.ensures.task tt;
      asked = λ blocks served all waiting numbered.
          let there = queue-inside c.args.queues.now bank k inside c.requires.seats in
          let left = sym (now.queues.left k q (omega arith)) in
          let here = subst (AreWaiting served all) left (waiting k q there) in
          let has = subst (HasNumbers blocks) left (numbered k q there) in
          changed_more (now.asked blocks served all waiting numbered) b x (omega arith)
          c.take_over.ensures.task
          (record { asked = c.take_over.ensures.asked blocks served all here has });
    }

pub returns-clause-asked : goal.returns-clause-asked
returns-clause-asked c = λ blocks served all waiting numbered were.
    let done = all_changed (c.loop-index.invariant.asked blocks served all waiting numbered)
    c.deref_mut-back-items.ensures.value c.args.self.now.backs.ok.0 (omega arith) in
    record {
      each = λ k d lt. (done.changed k d lt).asked (were.each k d (done.inside k lt));
    }
