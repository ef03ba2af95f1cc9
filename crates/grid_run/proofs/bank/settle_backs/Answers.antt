use Rattle.std.proofs.Common.{arith, refl, ◌∙◌}
use Rattle.std.proofs.Math.Seq.{map-set_same}
use Rattle.grid_core.proofs.ListLoops.{changed_more, still}
use Rattle.grid_run.specs.Backs.{WereAsked, back_task}
use Rattle.grid_run.proofs.Slices.{all-turned}
use Rattle.grid_run.proofs.bank.settle_backs.Goals as goal

pub settle-requires : goal.settle-requires
settle-requires c =
    let room = c.requires.room in
    record {
      room = (
        room.0,
        room.1,
        still c.loop-back.invariant refl (WereAsked room.0 room.1) c.loop-back-test.true room.2
            c.back-item.result,
        room.3,
      );
    }

pub loop-back-preserved : goal.loop-back-preserved
loop-back-preserved c =
    changed_more c.loop-back.invariant c.back-item.result c.settle.new.self (omega arith)
    c.settle.ensures.task
    (record { asked = c.in_ok-settle.ensures.asked; settled = c.in_ok-settle.ensures.settled })

pub returns-in_err-settle-clause-tasks : goal.returns-in_err-settle-clause-tasks
returns-in_err-settle-clause-tasks c =
    map-set_same back_task c.loop-back.backs c.loop-back.back-index c.settle.new.self
    c.back-item.result c.settle.ensures.task
    ∙ c.loop-back.invariant.told

pub returns : goal.returns
returns c =
    let all = all-turned c.loop-back.invariant (omega arith) in
    record {
      asked = λ blocks them were j d lt.
          (all.changed j d lt).asked blocks them (were j d (all.inside j lt));
      settled = λ j d lt. (all.changed j d lt).settled;
      tasks = all.told;
    }
