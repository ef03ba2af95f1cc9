use Rattle.std.proofs.Common.{◌+◌, ◌^◌, map, ap, ◌∙◌}
use Rattle.grid_core.specs.Totals.{added, listed_counts, past}
use Rattle.grid_core.proofs.Tables.{level-there, sum-next, sum-within, within-there}
use Rattle.grid_core.proofs.histogram.sum_past.Goals as goal

pub sum_from-requires-clause-inside : goal.sum_from-requires-clause-inside
sum_from-requires-clause-inside c = level-there c.args.tables.now c.loop-place-test.true
    c.index-tables-place.is c.deref.ensures.value c.args.level c.requires.level

pub sum_from-requires-clause-within : goal.sum_from-requires-clause-within
sum_from-requires-clause-within c = within-there c.args.tables.now c.loop-place-test.true
    c.index-tables-place.is c.deref.ensures.value c.args.level (2 ^ 44) c.args.distance
    c.loop-place.auto.place c.requires.within

pub plus-sum-requires : goal.plus-sum-requires
plus-sum-requires c =
    let vs = c.args.tables.now in
    let f = c.sum_from.result in
    sum-within vs c.loop-place-test.true c.index-tables-place.is c.deref.ensures.value c.args.level
    (2 ^ 44) c.loop-place.sum f (past c.args.distance c.args.level (map listed_counts vs))
    c.loop-place.invariant c.sum_from.ensures c.requires.within

pub loop-place-preserved : goal.loop-place-preserved
loop-place-preserved c =
    let vs = c.args.tables.now in
    let k = c.args.level in
    ap (λ s. added s (past (c.loop-place.place + 1) k (map listed_counts vs))) c.plus-sum.ensures
    ∙ sum-next vs c.loop-place-test.true c.index-tables-place.is c.deref.ensures.value k
    c.loop-place.sum c.sum_from.result (past c.args.distance k (map listed_counts vs))
    c.loop-place.invariant c.sum_from.ensures
