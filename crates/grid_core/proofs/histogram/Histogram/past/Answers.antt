use Rattle.std.proofs.Common.{◌≤◌, ◌^◌, List, length, map, sym, subst, arith}
use Rattle.std.specs.Global.{Vec}
use Rattle.std.specs.List.{All}
use Rattle.cache_core.specs.declared.counts.PerClass.{PerClass}
use Rattle.cache_core.specs.Counting.{IsWithin}
use Rattle.grid_core.specs.Totals.{listed_counts, past}
use Rattle.grid_core.proofs.Tables.{wide-at, within-past}
use Rattle.grid_core.proofs.histogram.Histogram.past.Goals as goal

pub sum_past-requires-clause-level : goal.sum_past-requires-clause-level
sum_past-requires-clause-level c =
    let self = c.args.self.now in
    let ts = map listed_counts self.distances.items in
    let low = c.requires.level in
    let each : All (λ (l : List PerClass). c.args.level ≤ length l) ts = λ k d lt.
    let e = wide-at ts self.levels self.wide k d lt in omega arith in
    subst (λ (l : List (Vec PerClass)). All (λ (l : List PerClass). c.args.level ≤ length l)
    (map listed_counts l)) (sym c.deref.ensures.value) each

pub sum_past-requires-clause-within : goal.sum_past-requires-clause-within
sum_past-requires-clause-within c =
    let self = c.args.self.now in
    subst (λ (l : List (Vec PerClass)). IsWithin
    (past c.args.ways c.args.level (map listed_counts l))
    (2 ^ 44)) (sym c.deref.ensures.value)
    (within-past (2 ^ 44) (map listed_counts self.distances.items) c.args.ways c.args.level
    c.requires.within.0)
