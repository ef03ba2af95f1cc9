use Rattle.std.proofs.Common.{◌-◌, ◌^◌, rules}
use Rattle.std.proofs.lemmas.List.Sorted.{IsNonDecreasingBy-from_sort_by_key}
use Rattle.cache_core.specs.Geometry.{sets_of}
use Rattle.grid_core.proofs.parts.by_sets.Goals as goal

pub returns-clause-falling : goal.returns-clause-falling
returns-clause-falling c =
    IsNonDecreasingBy-from_sort_by_key (λ g. 2 ^ 64 - 1 - sets_of g) _
    c.sort_unstable_by_key.ensures.sorted (λ a r q k. search rules)
