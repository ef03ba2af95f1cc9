use Rattle.std.proofs.Common.{arith, rules}
use Rattle.grid_core.specs.Singles.{HasSettled}
use Rattle.grid_core.proofs.ListLoops.{all_changed, changed_more, part-told, still, told_failed}
use Rattle.grid_core.proofs.singles.serve_all.Goals as goal

pub serve-requires : goal.serve-requires
serve-requires c =
    let before = c.requires in
    let settled = still c.loop-single.invariant c.deref_mut-single-items.ensures.value
    (HasSettled before.0) (omega arith) before.1 c.single-item.result in
    (before.0, settled)

pub loop-single-preserved : goal.loop-single-preserved
loop-single-preserved c =
    let one = c.in_ok-serve.ensures in
    changed_more c.loop-single.invariant c.single-item.result c.serve.new.self (omega arith) (cc)
    (record { reached = one.reached; pending = one.pending })

pub returns-in_err-serve : goal.returns-in_err-serve
returns-in_err-serve c =
    let told = told_failed c.loop-single.invariant c.deref_mut-single-items.ensures.value
    c.args.singles.now.ok.0 c.single-item.result c.serve.new.self (cc) in
    record {
      reached = search rules;
      pending = search rules;
      counts = part-told _ _ _ told (λ t. t.1);
      rules = part-told _ _ _ told (λ t. t.0.1);
      shading = part-told _ _ _ told (λ t. t.0);
    }

pub returns : goal.returns
returns c =
    let all = all_changed c.loop-single.invariant c.deref_mut-single-items.ensures.value
    c.args.singles.now.ok.0 (omega arith) in
    record {
      reached = λ h were j d lt. (all.changed j d lt).reached h (were j d (all.inside j lt));
      pending = λ n were j d lt. (all.changed j d lt).pending n (were j d (all.inside j lt));
      counts = part-told _ _ _ all.told (λ t. t.1);
      rules = part-told _ _ _ all.told (λ t. t.0.1);
      shading = part-told _ _ _ all.told (λ t. t.0);
    }
