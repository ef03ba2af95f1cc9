use Rattle.std.proofs.Common.{sym, subst}
use Rattle.std.specs.List.{All}
use Rattle.std.proofs.lemmas.Result.{on_ok_weaker}
use Rattle.grid_run.specs.Backs.{NothingWaits, WereAsked, back_task}
use Rattle.grid_run.specs.Banks.{bank_task}
use Rattle.grid_run.proofs.Slices.{on-items, told-items}
use Rattle.grid_run.proofs.bank.Bank.settle.Goals as goal

pub settle_backs-requires : goal.settle_backs-requires
settle_backs-requires c =
    let room = c.requires.room in
    record {
      room = (
        room.0,
        room.1,
        subst (All (WereAsked room.0 room.1)) (sym c.deref_mut.ensures.value) room.2.each,
        room.3,
      );
    }

pub returns-clause-asked : goal.returns-clause-asked
returns-clause-asked c =
    let b = c.args.self.now in
    let done = c.settle_backs.ensures in
    on_ok_weaker c.settle_backs.result (λ asked blocks all were. record {
      each = on-items back_task b.backs.items c.deref_mut.result.now c.settle_backs.new.backs
          b.backs.len (λ old new. All (WereAsked blocks all) old → All (WereAsked blocks all) new)
          b.backs.ok.0 c.deref_mut.ensures.value done.tasks (asked blocks all) were.each;
    }) done.asked

pub returns-clause-settled : goal.returns-clause-settled
returns-clause-settled c =
    let b = c.args.self.now in
    let done = c.settle_backs.ensures in
    on_ok_weaker c.settle_backs.result (λ settled. record {
      each = on-items back_task b.backs.items c.deref_mut.result.now c.settle_backs.new.backs
          b.backs.len (λ old new. All NothingWaits new) b.backs.ok.0 c.deref_mut.ensures.value
          done.tasks settled;
    }) done.settled

pub returns-clause-task : goal.returns-clause-task
unfolding bank_task
returns-clause-task c =
    told-items back_task c.args.self.now.backs c.deref_mut.result.now c.settle_backs.new.backs
    c.deref_mut.ensures.value c.settle_backs.ensures.tasks
