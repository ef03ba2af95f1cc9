use Rattle.std.proofs.Common.{arith, map, refl}
use Rattle.grid_core.specs.Numbered.{blocks_in}
use Rattle.grid_core.proofs.ListLoops.{all_changed, changed_more, changed_so, told_failed}
use Rattle.grid_core.proofs.ListLoops.{told_still}
use Rattle.grid_core.proofs.MoreNumbers.{on-further}
use Rattle.grid_run.specs.Backs.{AreSeatedOn}
use Rattle.grid_run.specs.Fronts.{front_rules}
use Rattle.grid_run.proofs.LoopTurns.{asks-more, asks-next}
use Rattle.grid_run.proofs.MoreNumbers.{right-more}
use Rattle.grid_run.proofs.StayNumbered.{on-same}
use Rattle.grid_run.proofs.queues.ask_queues.Goals as goal

pub loop-queue-init : goal.loop-queue-init
loop-queue-init c = record {
  changed = record {
    told = refl;
    changed = λ j d below. absurd (omega arith);
    left = λ j d le. refl;
  };
  grows = on-same (blocks_in c.args.numbers.now);
}

pub ask-requires : goal.ask-requires
ask-requires c = record {
  placed = told_still c.loop-queue.invariant.changed c.deref_mut-queue-items.ensures.value
      (AreSeatedOn c.args.side (map front_rules c.args.fronts.now)) (omega arith)
      c.requires.placed c.queue-item.result;
  sent = c.requires.sent;
  known = λ k d lt. record {
    known = right-more _ _ c.loop-queue.invariant.grows _ (c.requires.known k d lt).known;
  };
}

pub loop-queue-preserved : goal.loop-queue-preserved
loop-queue-preserved c =
    let now = c.loop-queue.invariant in
    let start = blocks_in c.args.numbers.now in
    let done = c.in_ok-ask.ensures in
    record {
      changed = changed_more
          (changed_so now.changed
          (asks-more c.args.side c.args.fronts.now start _ _ done.numbers.grows))
          c.queue-item.result c.ask.new.self (omega arith) c.ask.ensures.seats
          (asks-next c.args.side c.args.fronts.now start _ _ now.grows _ c.ask.new.self
          c.ask.ensures.seats done.asked done.numbers);
      grows = on-further start _ _ now.grows done.numbers.grows;
    }

pub returns-in_err-ask-clause-seats : goal.returns-in_err-ask-clause-seats
returns-in_err-ask-clause-seats c =
    told_failed c.loop-queue.invariant.changed c.deref_mut-queue-items.ensures.value
    c.args.queues.now.ok.0 c.queue-item.result c.ask.new.self c.ask.ensures.seats

pub returns-clause-asked : goal.returns-clause-asked
returns-clause-asked c = λ given h q before sent were j d lt.
    let all = all_changed c.loop-queue.invariant.changed c.deref_mut-queue-items.ensures.value
    c.args.queues.now.ok.0 (omega arith) in
    (all.changed j d lt).asked given h q before sent (were j d (all.inside j lt))

pub returns-clause-numbers : goal.returns-clause-numbers
returns-clause-numbers c =
    let all = all_changed c.loop-queue.invariant.changed c.deref_mut-queue-items.ensures.value
    c.args.queues.now.ok.0 (omega arith) in
    record {
      grows = c.loop-queue.invariant.grows;
      each = λ have j d lt. (all.changed j d lt).numbers (have j d (all.inside j lt));
    }
