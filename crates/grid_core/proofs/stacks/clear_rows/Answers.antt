use Rattle.std.proofs.Common.{arith}
use Rattle.grid_core.proofs.ListLoops.{all_changed, changed_more, part-told}
use Rattle.grid_core.proofs.stacks.clear_rows.Goals as goal

pub loop-stack-preserved : goal.loop-stack-preserved
loop-stack-preserved c =
    let one = c.clear.ensures in
    changed_more c.loop-stack.invariant c.stack-item.result c.clear.new.self (omega arith) (cc)
    (record { stands = one.stands; counted = one.counted; bounds = one.bounds })

pub returns : goal.returns
returns c =
    let all = all_changed c.loop-stack.invariant c.deref_mut-stack-items.ensures.value
    c.args.stacks.now.ok.0 (omega arith) in
    record {
      stands = λ h j d lt. (all.changed j d lt).stands h;
      counted = λ sizes h were j d lt.
          (all.changed j d lt).counted sizes h (were j d (all.inside j lt));
      bounds = λ n were j d lt. (all.changed j d lt).bounds n (were j d (all.inside j lt));
      levels = part-told _ _ _ all.told (λ t. t.1);
      rules = part-told _ _ _ all.told (λ t. t.0);
    }
