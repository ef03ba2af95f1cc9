use Rattle.std.proofs.Common.{arith, refl}
use Rattle.grid_core.specs.Numbered.{blocks_in}
use Rattle.grid_core.proofs.ListLoops.{all_changed, changed_more, changed_so, still, told_failed}
use Rattle.grid_core.proofs.MoreNumbers.{on-further}
use Rattle.grid_run.specs.Fronts.{FrontAt}
use Rattle.grid_run.proofs.LoopTurns.{serves-more}
use Rattle.grid_run.proofs.MoreNumbers.{front-more}
use Rattle.grid_run.proofs.StayNumbered.{on-same}
use Rattle.grid_run.proofs.fronts.serve_fronts.Goals as goal

pub loop-front-init : goal.loop-front-init
loop-front-init c = record {
  changed = record {
    told = refl;
    changed = λ j d below. absurd (omega arith);
    left = λ j d le. refl;
  };
  grows = on-same (blocks_in c.args.numbers.now);
}

pub serve-requires : goal.serve-requires
serve-requires c =
    let room = c.requires.room in
    let at = still c.loop-front.invariant.changed c.deref_mut-front-items.ensures.value
    (FrontAt room.0 room.1) (omega arith) room.2 c.front-item.result in
    record { room = (room.0, room.1, at, room.3) }

pub loop-front-preserved : goal.loop-front-preserved
loop-front-preserved c =
    let now = c.loop-front.invariant in
    let start = blocks_in c.args.numbers.now in
    let done = c.in_ok-serve.ensures in
    record {
      changed = changed_more
          (changed_so now.changed (serves-more c.args.request start _ _ done.grows))
          c.front-item.result c.serve.new.self (omega arith) c.serve.ensures.rules
          (record {
            stands = λ h at. done.stands h (front-more start _ now.grows h _ at);
            sent = λ h at. done.last h (front-more start _ now.grows h _ at);
          });
      grows = on-further start _ _ now.grows done.grows;
    }

pub returns-in_err-serve-clause-rules : goal.returns-in_err-serve-clause-rules
returns-in_err-serve-clause-rules c =
    told_failed c.loop-front.invariant.changed c.deref_mut-front-items.ensures.value
    c.args.fronts.now.ok.0 c.front-item.result c.serve.new.self c.serve.ensures.rules

pub returns : goal.returns
returns c =
    let all = all_changed c.loop-front.invariant.changed c.deref_mut-front-items.ensures.value
    c.args.fronts.now.ok.0 (omega arith) in
    record {
      stands = λ h were j d lt. (all.changed j d lt).stands h (were j d (all.inside j lt));
      sent = λ h were j d lt. (all.changed j d lt).sent h (were j d (all.inside j lt));
      grows = c.loop-front.invariant.grows;
      rules = all.told;
    }
