use Rattle.std.proofs.Common.{arith}
use Rattle.grid_core.specs.Shades.{ShadeHasCounted}
use Rattle.grid_core.proofs.ListLoops.{all_changed, changed_more, still}
use Rattle.grid_core.proofs.shades.settle_shades.Goals as goal

pub settle-requires : goal.settle-requires
settle-requires c =
    let before = c.requires in
    let counted = still c.loop-shade.invariant c.deref_mut-shade-items.ensures.value
    (ShadeHasCounted before.0) (omega arith) before.1 c.shade-item.result in
    (before.0, counted, before.2)

pub loop-shade-preserved : goal.loop-shade-preserved
loop-shade-preserved c =
    let one = c.settle.ensures in
    changed_more c.loop-shade.invariant c.shade-item.result c.settle.new.self (omega arith)
    one.rules (record { stands = one.stands; hit = one.hit; counted = one.counted })

pub returns : goal.returns
returns c =
    let all = all_changed c.loop-shade.invariant c.deref_mut-shade-items.ensures.value
    c.args.shades.now.ok.0 (omega arith) in
    record {
      stands = λ h were j d lt. (all.changed j d lt).stands h (were j d (all.inside j lt));
      hit = λ h were j d lt. (all.changed j d lt).hit h (were j d (all.inside j lt));
      counted = λ n were j d lt. (all.changed j d lt).counted n (were j d (all.inside j lt));
      rules = all.told;
    }
