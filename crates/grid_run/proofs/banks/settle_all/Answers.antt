use Rattle.std.proofs.Common.{arith, refl, ◌∙◌}
use Rattle.std.proofs.Math.Seq.{map-set_same}
use Rattle.grid_core.proofs.ListLoops.{changed_more, still}
use Rattle.grid_run.specs.Banks.{WasAsked, bank_task}
use Rattle.grid_run.proofs.Slices.{all-turned}
use Rattle.grid_run.proofs.banks.settle_all.Goals as goal

pub settle-requires : goal.settle-requires
settle-requires c =
    let room = c.requires.room in
    record {
      room = (
        room.0,
        room.1,
        still c.loop-bank.invariant refl (WasAsked room.0 room.1) c.loop-bank-test.true room.2
            c.bank-item.result,
        room.3,
      );
    }

pub loop-bank-preserved : goal.loop-bank-preserved
loop-bank-preserved c =
    changed_more c.loop-bank.invariant c.bank-item.result c.settle.new.self (omega arith)
    c.settle.ensures.task
    (record { asked = c.in_ok-settle.ensures.asked; settled = c.in_ok-settle.ensures.settled })

pub returns-in_err-settle-clause-tasks : goal.returns-in_err-settle-clause-tasks
returns-in_err-settle-clause-tasks c =
    map-set_same bank_task c.loop-bank.banks c.loop-bank.bank-index c.settle.new.self
    c.bank-item.result c.settle.ensures.task
    ∙ c.loop-bank.invariant.told

pub returns : goal.returns
returns c =
    let all = all-turned c.loop-bank.invariant (omega arith) in
    record {
      served = record {
        asked = λ blocks them were j d lt.
            (all.changed j d lt).asked blocks them (were j d (all.inside j lt));
        settled = λ j d lt. (all.changed j d lt).settled;
      };
      tasks = all.told;
    }
