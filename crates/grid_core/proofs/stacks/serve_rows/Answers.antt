use Rattle.std.proofs.Common.{◌≡◌, ℕ, ◌/◌, ◌<◌, length, sym, ap, subst, ◌∙◌, arith}
use Rattle.std.specs.List.{All}
use Rattle.std.proofs.Math.Logic.{∥∥₁_map}
use Rattle.cache_core.specs.History.{History}
use Rattle.grid_core.specs.Shapes.{HaveBsize}
use Rattle.grid_core.specs.Standing.{AreBehind, IsWithinStack, StackStandsFor, StayFirstFrom}
use Rattle.grid_core.specs.Standing.{rules_of_rows, told_in}
use Rattle.grid_core.proofs.Again.{size-at}
use Rattle.grid_core.proofs.ListLoops.{all_changed, changed_more, part-told, still}
use Rattle.grid_core.proofs.stacks.serve_rows.Goals as goal

pub serve_one-behind-requires : goal.serve_one-behind-requires
serve_one-behind-requires c =
    let e = c.stack-item.result in
    let i = c.loop-stack.stack-index in
    let stacks = c.args.stacks.now.items in
    let was = c.loop-stack.invariant.rows in
    let lent = c.deref_mut-stack-items.ensures.value in
    let inside : i < length stacks = omega arith in
    let within = c.requires.within in
    let n = c.requires.lived.0 in
    let size = still was lent (λ s. (rules_of_rows s).bsize ≡ n) inside
    (size-at n stacks c.requires.lived.1) e in
    let m = c.requires.block.0 in
    let its = still was lent (λ s. (rules_of_rows s).bsize ≡ m) inside
    (size-at m stacks c.requires.block.1) e in
    record {
      block = c.requires.block.2 ∙ ap (λ n. c.args.access.addr / n) (sym its);
      level = still was lent (λ s. c.args.level < told_in s) inside c.requires.levels e;
      within = (within.0, still was lent (IsWithinStack within.0) inside within.1 e, within.2);
      behind = ∥∥₁_map c.requires.lived.2 (λ w. (
        w.0,
        still was lent (λ s. StackStandsFor s w.0) inside w.1 e,
        subst (λ m. AreBehind c.loop-stack.behind m w.0 c.args.access) (sym size)
            (c.loop-stack.invariant.behind n w.0 c.requires.lived.1 w.1),
      ));
    }

pub least_staying-least-requires : goal.least_staying-least-requires
least_staying-least-requires c = rw c.deref.ensures.value c.requires.block

pub loop-stack-preserved : goal.loop-stack-preserved
loop-stack-preserved c =
    let e = c.stack-item.result in
    let i = c.loop-stack.stack-index in
    let x = c.args.access in
    let stacks = c.args.stacks.now.items in
    let was = c.loop-stack.invariant.rows in
    let lent = c.deref_mut-stack-items.ensures.value in
    let inside : i < length stacks = omega arith in
    let one = c.serve_one-behind.ensures in
    let size = λ (n : ℕ) (sizes : HaveBsize n stacks).
    still was lent (λ s. (rules_of_rows s).bsize ≡ n) inside (size-at n stacks sizes) e in
    record {
      rows = changed_more was e c.serve_one-behind.new.stack (omega arith) (cc) (record {
        stands = one.stands;
        moved = one.moved;
        counted = one.counted;
        bounds = one.bounds;
      });
      behind = λ n h sizes all. subst (λ m. AreBehind c.serve_one-behind.result m h x)
          (size n sizes) (one.behind h
          (still was lent (λ s. StackStandsFor s h) inside all e)
          (subst (λ m. AreBehind c.loop-stack.behind m h x) (sym (size n sizes))
          (c.loop-stack.invariant.behind n h sizes all)));
    }

pub returns : goal.returns
returns c =
    let stacks = c.args.stacks.now.items in
    let least = c.least_staying-least.result in
    let all = all_changed c.loop-stack.invariant.rows c.deref_mut-stack-items.ensures.value
    c.args.stacks.now.ok.0 (omega arith) in
    let stay : (n : ℕ) (h : History) → HaveBsize n stacks → All (λ s. StackStandsFor s h) stacks
    → All (λ s. StayFirstFrom (rules_of_rows s).bsize least h c.args.access) stacks =
    λ n h sizes were j d lt. subst (λ m. StayFirstFrom m least h c.args.access)
    (sym (size-at n stacks sizes j d lt)) (c.least_staying-least.ensures n h
    (rw c.deref.ensures.value sizes) (rw c.deref.ensures.value were)) in
    record {
      stands = λ n h sizes were j d lt. let in' = all.inside j lt in
          (all.changed j d lt).stands h (were j d in') (stay n h sizes were j d in');
      moved = λ n h sizes were j d lt. let in' = all.inside j lt in
          (all.changed j d lt).moved h (were j d in') (stay n h sizes were j d in');
      counted = λ n sizes h same were low before j d lt. let in' = all.inside j lt in
          (all.changed j d lt).counted sizes h (were j d in') (stay n h same were j d in')
          (low j d in') (before j d in');
      bounds = λ n were j d lt. (all.changed j d lt).bounds n (were j d (all.inside j lt));
      levels = part-told _ _ _ all.told (λ t. t.1);
      rules = part-told _ _ _ all.told (λ t. t.0);
    }
