use Rattle.std.proofs.Common.{◌≡◌, rules}
use Rattle.cache_core.specs.Counts.{counts_of, tally, none_by_class}
use Rattle.grid_core.proofs.shade.Shade.new.Goals as goal

pub returns-clause-stands : goal.returns-clause-stands
unfolding counts_of tally
returns-clause-stands c =
    let none : c.default.result ≡ none_by_class = search rules in
    record { holds = c.in-Ok.ensures.holds; counted = none }
