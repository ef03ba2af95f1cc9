use Rattle.std.proofs.Common.{sym, subst}
use Rattle.std.proofs.lemmas.List.Elements.{AllWithin-more, at_read}
use Rattle.cache_core.specs.Parts.{SendsNothing, outcome_of}
use Rattle.grid_core.specs.Singles.{SingleHasAnswered, single_rules}
use Rattle.grid_core.proofs.singles.none_sent.Goals as goal

pub loop-single-preserved : goal.loop-single-preserved
loop-single-preserved c = λ h x all.
    let singles = c.args.singles.now in
    let k = c.loop-single.single-index in
    let s = c.single-item.result in
    let answered = subst (SingleHasAnswered h x) (sym c.single-item.is)
    (all k s c.loop-single-test.true) in
    AllWithin-more (λ s. SendsNothing (outcome_of (single_rules s) h x)) singles 0 k
    (c.loop-single.invariant h x all)
    (at_read singles (λ s. SendsNothing (outcome_of (single_rules s) h x)) k s
    c.loop-single-test.true c.single-item.is
    (c.sent_nothing.ensures c.if-not-sent_nothing.false h x answered))
