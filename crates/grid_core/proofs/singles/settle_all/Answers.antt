use Rattle.std.proofs.Common.{length, get_or, map, sym, subst, arith}
use Rattle.std.specs.List.{All}
use Rattle.cache_core.specs.History.{History}
use Rattle.grid_core.specs.Places.{IsPlace}
use Rattle.grid_core.specs.Shades.{ShadeHasHit, shade_rules}
use Rattle.grid_core.specs.Shading.{IsShaded, StackedFollowed}
use Rattle.grid_core.specs.StackedCells.{stacked_rules}
use Rattle.grid_core.specs.Singles.{IsPending, single_rules}
use Rattle.grid_core.proofs.ListLoops.{all_changed, changed_more, part-told, still, told_still}
use Rattle.grid_core.proofs.singles.settle_all.Goals as goal

pub prior_at-prior-requires : goal.prior_at-prior-requires
prior_at-prior-requires c =
    let rs = stacked_rules c.args.stacked.now in
    let ss = map shade_rules c.args.shades.now.items in
    let shaded = told_still c.loop-single.invariant c.deref_mut-single-items.ensures.value
    (IsShaded rs ss) (omega arith) c.requires.shaded c.single-item.result in
    record {
      some = shaded.some;
      there = subst (λ p. IsPlace (length rs) (length ss) p) (sym c.shadow.ensures) shaded.there;
    }

pub settle-requires : goal.settle-requires
settle-requires c =
    let before = c.requires.pending in
    let pending = still c.loop-single.invariant c.deref_mut-single-items.ensures.value
    (IsPending before.0) (omega arith) before.1 c.single-item.result in
    (before.0, pending, before.2)

pub loop-single-preserved : goal.loop-single-preserved
loop-single-preserved c =
    let x = c.args.access in
    let s = get_or c.loop-single.single-items c.loop-single.single-index c.single-item.result in
    let rs = stacked_rules c.args.stacked.now in
    let ss = map shade_rules c.args.shades.now.items in
    let shaded = told_still c.loop-single.invariant c.deref_mut-single-items.ensures.value
    (IsShaded rs ss) (omega arith) c.requires.shaded c.single-item.result in
    let known = λ (h : History) (followed : StackedFollowed h x c.args.stacked.now)
    (hit : All (ShadeHasHit h x) c.args.shades.now.items).
    c.prior_at-prior.ensures h x (followed shaded.some) hit (single_rules s)
    (subst (λ p. IsShaded rs ss (p, single_rules s)) (sym c.shadow.ensures) shaded) in
    let one = c.settle.ensures in
    changed_more c.loop-single.invariant c.single-item.result c.settle.new.self (omega arith) (cc)
    (record {
      stands = λ h reached followed hit. one.stands h reached (known h followed hit);
      answers = λ h reached followed hit. one.answer h reached (known h followed hit);
      settled = one.settled;
    })

pub returns : goal.returns
returns c =
    let all = all_changed c.loop-single.invariant c.deref_mut-single-items.ensures.value
    c.args.singles.now.ok.0 (omega arith) in
    record {
      stands = λ h were followed hit j d lt.
          (all.changed j d lt).stands h (were j d (all.inside j lt)) followed hit;
      answers = λ h were followed hit j d lt.
          (all.changed j d lt).answers h (were j d (all.inside j lt)) followed hit;
      settled = λ n were j d lt. (all.changed j d lt).settled n (were j d (all.inside j lt));
      rules = part-told _ _ _ all.told (λ t. t.1);
      shading = all.told;
    }
