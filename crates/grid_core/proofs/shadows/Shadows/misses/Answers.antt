use Rattle.std.proofs.Common.{◌^◌, ◌+◌, List, sym, subst}
use Rattle.cache_core.specs.declared.counts.PerClass.{PerClass}
use Rattle.cache_core.specs.Counting.{IsWithin}
use Rattle.grid_core.specs.Totals.{total}
use Rattle.grid_core.proofs.Totals.{within-last}
use Rattle.grid_core.proofs.shadows.Shadows.misses.Goals as goal

pub sum_from-requires-clause-within : goal.sum_from-requires-clause-within
sum_from-requires-clause-within c = within-last (2 ^ 44) c.deref.result.now (c.args.rank + 1)
    (subst (λ (l : List PerClass). IsWithin (total l) (2 ^ 44)) (sym c.deref.ensures.value)
    c.requires.within)
