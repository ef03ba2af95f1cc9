use Rattle.std.proofs.Common.{◌^◌, List, drop, sym, subst}
use Rattle.cache_core.specs.declared.counts.PerClass.{PerClass}
use Rattle.cache_core.specs.Counting.{IsWithin}
use Rattle.grid_core.specs.Totals.{total}
use Rattle.grid_core.proofs.Totals.{within-last}
use Rattle.grid_core.proofs.histogram.Histogram.first_writes.Goals as goal

pub sum_from-requires-clause-within : goal.sum_from-requires-clause-within
sum_from-requires-clause-within c =
    subst (λ (l : List PerClass). IsWithin (total (drop c.args.ways l)) (2 ^ 44))
    (sym c.deref.ensures.value)
    (within-last (2 ^ 44) c.args.self.now.first_writes.items c.args.ways c.requires.within.1)
