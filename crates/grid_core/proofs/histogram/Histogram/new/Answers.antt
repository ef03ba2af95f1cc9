use Rattle.std.proofs.Common.{◌+◌, length, map, replicate, drop, sym, ap, ◌∙◌}
use Rattle.std.proofs.lemmas.List.{length-map, length-replicate}
use Rattle.cache_core.specs.Counts.{none_by_class}
use Rattle.grid_core.specs.Totals.{listed_counts, past, total}
use Rattle.grid_core.proofs.Tables.{past-none, wide-new}
use Rattle.grid_core.proofs.Totals.{drop-none}
use Rattle.grid_core.proofs.histogram.Histogram.new.Goals as goal

pub invariant_of-result-clause-tall : goal.invariant_of-result-clause-tall
invariant_of-result-clause-tall c =
    sym (length-map c.in_ok-distances.distances.items listed_counts)
    ∙ ap length c.in_ok-distances.ensures
    ∙ length-replicate (c.args.ways + 1) (replicate c.args.levels none_by_class)

pub invariant_of-result-clause-long : goal.invariant_of-result-clause-long
invariant_of-result-clause-long c = ap length c.in_ok-zeros.ensures
    ∙ length-replicate (c.args.ways + 1) none_by_class

pub invariant_of-result-clause-wide : goal.invariant_of-result-clause-wide
invariant_of-result-clause-wide c = wide-new (map listed_counts c.in_ok-distances.distances.items)
    (c.args.ways + 1) c.args.levels c.in_ok-distances.ensures

pub returns-clause-past : goal.returns-clause-past
returns-clause-past c = λ n k. ap (past n k) c.in_ok-distances.ensures
    ∙ past-none (c.args.ways + 1) c.args.levels n k

pub returns-clause-first : goal.returns-clause-first
returns-clause-first c = λ n. ap (λ l. total (drop n l)) c.in_ok-zeros.ensures
    ∙ drop-none (c.args.ways + 1) n
