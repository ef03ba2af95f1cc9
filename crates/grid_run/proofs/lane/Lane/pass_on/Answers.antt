use Rattle.std.proofs.Common.{map, ap, refl, sym, subst, ◌∙◌}
use Rattle.std.specs.List.{All}
use Rattle.std.specs.Vec.{with_items}
use Rattle.grid_run.specs.Backs.{AreWaiting, HasNone, HasNumbers, queue_seats, seats_of_shared}
use Rattle.grid_run.specs.Banks.{NothingWaitsIn, WasAsked, bank_task, each_of, tasks_of_banks}
use Rattle.grid_run.specs.FirstLevels.{first_task, numbered_by, sent_by}
use Rattle.grid_run.specs.Lanes.{lane_task}
use Rattle.grid_run.proofs.BankLemmas.{tasks-told}
use Rattle.grid_run.proofs.Given.{emptied}
use Rattle.grid_run.proofs.Placed.{same-lane}
use Rattle.grid_run.proofs.Slices.{on-items, told-items}
use Rattle.grid_run.proofs.StayNumbered.{none-numbered}
use Rattle.grid_run.proofs.lane.Lane.pass_on.Goals as goal

pub take_over_all-requires-clause-seats : goal.take_over_all-requires-clause-seats
take_over_all-requires-clause-seats c =
    ap (map queue_seats) c.deref_mut.ensures.value ∙ c.requires.taken.1.lane.matched
    ∙ sym (ap (λ bs. map seats_of_shared (tasks_of_banks bs)) c.deref_mut-2.ensures.value)

pub take_over_all-requires-clause-settled : goal.take_over_all-requires-clause-settled
take_over_all-requires-clause-settled c =
    subst (All NothingWaitsIn) (sym c.deref_mut-2.ensures.value) c.requires.idle

pub returns-clause-given : goal.returns-clause-given
unfolding first_task
returns-clause-given c = λ past records was.
    let l = c.args.self.now in
    let qs = c.deref_mut.result.now in
    let new-qs = c.take_over_all.new.queues in
    let bs = c.deref_mut-2.result.now in
    let new-bs = c.take_over_all.new.banks in
    let are-queues = c.deref_mut.ensures.value in
    let are-banks = c.deref_mut-2.ensures.value in
    let over = c.take_over_all.ensures in
    let served = sent_by (first_task l.first) past in
    let all = sent_by (first_task l.first) records in
    let told = told-items queue_seats l.first.queues qs new-qs are-queues over.queues in
    let blocks = numbered_by l.first in
    let none = on-items queue_seats l.first.queues.items qs new-qs l.first.queues.len
    (λ old new. All HasNone new) l.first.queues.ok.0 are-queues over.queues over.none in
    record {
      given = emptied l.first (with_items l.first.queues new-qs) records served told none was.given;
      numbered = none-numbered blocks _ none;
      asked = on-items bank_task l.banks.items bs new-bs l.banks.len
          (λ old new. All (WasAsked blocks served) old → All (WasAsked blocks all) new)
          l.banks.ok.0 are-banks over.tasks (over.asked blocks served all
          (subst (All (AreWaiting served all)) (sym are-queues) was.given.served.queues)
          (subst (All (HasNumbers blocks)) (sym are-queues) was.numbered))
          was.asked;
      matched = told ∙ was.matched ∙ sym (ap (map seats_of_shared)
          (tasks-told _ _ (told-items bank_task l.banks bs new-bs are-banks over.tasks)));
    }

pub returns-clause-task : goal.returns-clause-task
unfolding lane_task
returns-clause-task c =
    let l = c.args.self.now in
    same-lane refl refl refl
    (ap each_of (tasks-told _ _ (told-items bank_task l.banks c.deref_mut-2.result.now
    c.take_over_all.new.banks c.deref_mut-2.ensures.value c.take_over_all.ensures.tasks)))
