use Rattle.std.proofs.Common.{◌-◌, ◌/◌, ◌<◌, ◌∙◌, ap, length, sym, subst, arith}
use Rattle.grid_core.specs.declared.stack.Stack.{Stack}
use Rattle.grid_core.specs.Standing.{StackStandsFor, rules_of_rows}
use Rattle.grid_core.proofs.Again.{size-at}
use Rattle.grid_core.proofs.Firsts.{stays-more}
use Rattle.grid_core.proofs.StackRules.{few-sets}
use Rattle.grid_core.proofs.stacks.least_staying.Goals as goal

pub stays-requires : goal.stays-requires
unfolding rules_of_rows
stays-requires c =
    let i = c.rising.left - 1 in
    let inside = c.rising.invariant.inside in
    let some = c.rising-test.true in
    let lt : i < length c.args.stacks.now = omega arith in
    let e = c.index-stacks-left.result in
    let at = c.index-stacks-left.is in
    let size = ap (λ (v : Stack). (rules_of_rows v).bsize) at
    ∙ size-at c.requires.0 c.args.stacks.now c.requires.1 i e lt in
    c.requires.2 ∙ ap (λ n. c.args.access.addr / n) (sym size)

pub returns : goal.returns
returns c = λ n h sizes all s same more. let few = few-sets s in absurd (omega arith)

pub returns-then-stays : goal.returns-then-stays
returns-then-stays c = λ n h sizes all s same more.
    let e = c.index-stacks-left.result in
    let i = c.rising.left - 1 in
    let inside = c.rising.invariant.inside in
    let some = c.rising-test.true in
    let lt : i < length c.args.stacks.now = omega arith in
    let at = c.index-stacks-left.is in
    let size = ap (λ (v : Stack). (rules_of_rows v).bsize) at
    ∙ size-at n c.args.stacks.now sizes i e lt in
    let last = c.last_set.ensures in
    stays-more e s h c.args.access (same ∙ sym size) (omega arith)
    (c.stays.ensures.first c.if-stays.true h
    (subst (λ v. StackStandsFor v h) (sym at) (all i e lt)))
