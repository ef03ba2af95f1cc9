use Rattle.std.proofs.Common.{◌+◌, not, ◌&&◌, ltb, map, sym, subst}
use Rattle.cache_core.specs.declared.counts.PerClass.{PerClass}
use Rattle.cache_core.specs.Counting.{IsWithin}
use Rattle.cache_core.proofs.CacheFacts.{IsWithin-with_one}
use Rattle.grid_core.specs.Totals.{listed_counts, past}
use Rattle.grid_core.proofs.histogram.count_distance.Goals as goal

pub returns-then-distance-gt0-clause-bounds : goal.returns-then-distance-gt0-clause-bounds
returns-then-distance-gt0-clause-bounds c = λ b all.
    subst (λ (p : PerClass). IsWithin p (b + 1)) (sym (c.count_past_in.ensures.past 0 0))
    (IsWithin-with_one c.args.access (not (ltb c.args.distance 0) && not (ltb c.args.level 0))
    (past 0 0 (map listed_counts c.args.tables.now.items)) b all)
