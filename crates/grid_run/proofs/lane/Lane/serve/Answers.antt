use Rattle.std.proofs.Common.{map, ap, refl, sym, ◌∙◌}
use Rattle.std.proofs.lemmas.Result.{on_ok_weaker}
use Rattle.grid_run.specs.Backs.{seats_of_shared}
use Rattle.grid_run.specs.Banks.{each_of}
use Rattle.grid_run.specs.Lanes.{lane_task}
use Rattle.grid_run.proofs.BankLemmas.{lent-served, lent-told}
use Rattle.grid_run.proofs.Given.{few-asked}
use Rattle.grid_run.proofs.Placed.{same-lane}
use Rattle.grid_run.proofs.lane.Lane.serve.Goals as goal

pub settle_on-requires-clause-room : goal.settle_on-requires-clause-room
settle_on-requires-clause-room g c κs within =
    let room = c.requires.room in
    few-asked c.second_level_sees_at_most_two.ensures c.selections_make_at_most_two.ensures
    c.args.self.now c.deref_mut.result.now room.0 c.deref_mut.ensures.value room.2 room.1

pub returns-clause-given : goal.returns-clause-given
returns-clause-given g c =
    let banks = c.args.self.now.banks in
    let bs = c.settle_on.new.banks in
    let done = c.settle_on.ensures in
    let lent = c.deref_mut.result.now in
    let are = c.deref_mut.ensures.value in
    on_ok_weaker c.settle_on.result (λ served past records was. record {
      given = was.given;
      numbered = was.numbered;
      asked = (lent-served banks lent bs are done.tasks served).asked _ _ was.asked;
      matched = was.matched
          ∙ sym (ap (map seats_of_shared) (lent-told banks lent bs are done.tasks));
    }) done.served

pub returns-clause-idle : goal.returns-clause-idle
returns-clause-idle g c =
    let banks = c.args.self.now.banks in
    let done = c.settle_on.ensures in
    on_ok_weaker c.settle_on.result (λ served.
    (lent-served banks c.deref_mut.result.now c.settle_on.new.banks c.deref_mut.ensures.value
    done.tasks served).settled) done.served

pub returns-clause-task : goal.returns-clause-task
unfolding lane_task
returns-clause-task g c =
    same-lane refl refl refl (ap each_of (lent-told c.args.self.now.banks c.deref_mut.result.now
    c.settle_on.new.banks c.deref_mut.ensures.value c.settle_on.ensures.tasks))
