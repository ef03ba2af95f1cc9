use Rattle.std.proofs.Common.{arith, rules}
use Rattle.grid_core.proofs.ListLoops.{all_changed, changed_more, part-told, told_failed}
use Rattle.grid_core.proofs.shades.serve_shades.Goals as goal

pub loop-shade-preserved : goal.loop-shade-preserved
loop-shade-preserved c =
    changed_more c.loop-shade.invariant c.shade-item.result c.serve.new.self (omega arith) (cc)
    (record { reached = c.in_ok-serve.ensures.reached; counted = c.serve.ensures.counted })

pub returns-in_err-serve : goal.returns-in_err-serve
returns-in_err-serve c =
    let told = told_failed c.loop-shade.invariant c.deref_mut-shade-items.ensures.value
    c.args.shades.now.ok.0 c.shade-item.result c.serve.new.self (cc) in
    record {
      reached = search rules;
      counted = search rules;
      misses = part-told _ _ _ told (λ t. t.1);
      rules = part-told _ _ _ told (λ t. t.0);
    }

pub returns : goal.returns
returns c =
    let all = all_changed c.loop-shade.invariant c.deref_mut-shade-items.ensures.value
    c.args.shades.now.ok.0 (omega arith) in
    record {
      reached = λ h were j d lt. (all.changed j d lt).reached h (were j d (all.inside j lt));
      counted = λ n were j d lt. (all.changed j d lt).counted n (were j d (all.inside j lt));
      misses = part-told _ _ _ all.told (λ t. t.1);
      rules = part-told _ _ _ all.told (λ t. t.0);
    }
