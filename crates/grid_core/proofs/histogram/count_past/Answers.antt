use Rattle.std.proofs.Common.{◌<◌, ◌^◌, true, map, length, get_or, set, List, [], sym, ap}
use Rattle.std.proofs.Common.{subst, ◌∙◌, arith}
use Rattle.std.proofs.Math.Seq.{map-set_same}
use Rattle.std.proofs.lemmas.List.{get_or-map, length-map, length-set, map-set}
use Rattle.cache_core.specs.declared.counts.PerClass.{PerClass}
use Rattle.cache_core.specs.Counting.{IsWithin, with_one}
use Rattle.cache_core.specs.Counts.{none_by_class}
use Rattle.grid_core.specs.Totals.{listed_counts, past, total}
use Rattle.grid_core.proofs.Tables.{past-set, within-place}
use Rattle.grid_core.proofs.histogram.count_past.Goals as goal

pub count_at-requires-clause-inside : goal.count_at-requires-clause-inside
count_at-requires-clause-inside c =
    let vs = c.args.tables.now in
    let long = length-map vs listed_counts in
    subst (λ (l : List PerClass). c.args.level < length l)
    (get_or-map listed_counts vs c.args.distance c.index-tables-distance.result []
    c.requires.distance)
    (c.requires.level c.args.distance [] (omega arith))

pub count_at-requires-clause-within : goal.count_at-requires-clause-within
count_at-requires-clause-within c =
    let vs = c.args.tables.now in
    let p = c.args.distance in
    let v = c.index-tables-distance.result in
    let long = length-map vs listed_counts in
    subst (λ (l : List PerClass). IsWithin (total l) (2 ^ 44))
    (get_or-map listed_counts vs p v [] c.requires.distance)
    (within-place (2 ^ 44) (map listed_counts vs) p 0 0 (omega arith) (omega arith)
    c.requires.within)

pub returns-clause-past : goal.returns-clause-past
returns-clause-past c = λ n k.
    let vs = c.args.tables.now in
    let ts = map listed_counts vs in
    let p = c.args.distance in
    let l = c.args.level in
    let x = c.args.access in
    let v = c.index-tables-distance.result in
    let u = c.count_at.new.counts in
    let long = length-map vs listed_counts in
    let at = get_or-map listed_counts vs p v [] c.requires.distance in
    ap (past n k) (map-set listed_counts vs p u
    ∙ ap (set ts p) (c.count_at.ensures
    ∙ ap (λ (r : List PerClass). set r l (with_one x true (get_or r l none_by_class))) (sym at)))
    ∙ past-set x ts p l n k (omega arith) (c.requires.level p [] (omega arith))

pub returns-clause-wide : goal.returns-clause-wide
returns-clause-wide c =
    let vs = c.args.tables.now in
    let ts = map listed_counts vs in
    let p = c.args.distance in
    let l = c.args.level in
    let v = c.index-tables-distance.result in
    let u = c.count_at.new.counts in
    let at = get_or-map listed_counts vs p v [] c.requires.distance in
    ap (map (λ (r : List PerClass). length r)) (map-set listed_counts vs p u)
    ∙ map-set_same (λ (r : List PerClass). length r) ts p u.items []
    (ap length c.count_at.ensures
    ∙ length-set (get_or vs p v).items l
    (with_one c.args.access true (get_or (get_or vs p v).items l none_by_class))
    ∙ ap length (sym at))
