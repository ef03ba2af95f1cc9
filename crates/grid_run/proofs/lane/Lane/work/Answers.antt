use Rattle.std.proofs.Common.{◌++◌, drop, length, map, take, ap, sym, subst, ◌∙◌, arith}
use Rattle.std.specs.List.{All}
use Rattle.std.proofs.lemmas.Result.{on_ok_weaker}
use Rattle.grid_run.specs.Backs.{seats_of_shared}
use Rattle.grid_run.specs.Banks.{WasAsked, each_of}
use Rattle.grid_run.specs.FirstLevels.{FirstTask, WasGiven, first_task, numbered_by, sent_by}
use Rattle.grid_run.specs.Lanes.{lane_task}
use Rattle.grid_run.proofs.BankLemmas.{lent-served, lent-told}
use Rattle.grid_run.proofs.Given.{few-asked}
use Rattle.grid_run.proofs.MoreNumbers.{banks-more}
use Rattle.grid_run.proofs.Placed.{on-ok-both, same-lane}
use Rattle.grid_run.proofs.lane.Lane.work.Goals as goal

pub take_on-requires-clause-asked : goal.take_on-requires-clause-asked
take_on-requires-clause-asked g c κs within =
    let room = c.requires.room in
    few-asked c.second_level_sees_at_most_two.ensures c.selections_make_at_most_two.ensures
    c.args.self.now c.deref_mut.result.now room.0 c.deref_mut.ensures.value
    (omega (arith, room.2)) room.1

pub take_on-requires-clause-room : goal.take_on-requires-clause-room
take_on-requires-clause-room g c κs within =
    let room = c.requires.room in (_, room.0, room.1.lane.given, room.2)

pub returns-clause-given : goal.returns-clause-given
unfolding first_task
returns-clause-given g c =
    let l = c.args.self.now in
    let f = c.take_on.new.first in
    let bs = c.take_on.new.banks in
    let done = c.take_on.ensures in
    let lent = c.deref_mut.result.now in
    let are = c.deref_mut.ensures.value in
    on-ok-both c.take_on.result (λ served took past records was. record {
      given = subst (λ (t : FirstTask). WasGiven (sent_by t past) (records ++ c.args.part.now) f)
          (sym done.task) (took.given _ records was.given);
      numbered = took.numbers.each was.numbered;
      asked = subst (λ (t : FirstTask). All (WasAsked (numbered_by f) (sent_by t past))
          (take l.banks.len (bs ++ drop (length bs) l.banks.items))) (sym done.task)
          (banks-more (numbered_by l.first) (numbered_by f) took.numbers.grows _ _
          ((lent-served l.banks lent bs are done.tasks served).asked _ _ was.asked));
      matched = ap (λ (t : FirstTask). t.seats) done.task ∙ was.matched
          ∙ sym (ap (map seats_of_shared) (lent-told l.banks lent bs are done.tasks));
    }) done.served done.taken

pub returns-clause-idle : goal.returns-clause-idle
returns-clause-idle g c =
    let banks = c.args.self.now.banks in
    let done = c.take_on.ensures in
    on_ok_weaker c.take_on.result (λ served.
    (lent-served banks c.deref_mut.result.now c.take_on.new.banks c.deref_mut.ensures.value
    done.tasks served).settled) done.served

pub returns-clause-task : goal.returns-clause-task
unfolding lane_task first_task
returns-clause-task g c =
    let done = c.take_on.ensures in
    same-lane (ap (λ (t : FirstTask). t.selection) done.task)
    (ap (λ (t : FirstTask). t.i) done.task) (ap (λ (t : FirstTask). t.d) done.task)
    (ap each_of (lent-told c.args.self.now.banks c.deref_mut.result.now c.take_on.new.banks
    c.deref_mut.ensures.value done.tasks))
