use Rattle.std.proofs.Common.{ℕ, List, []}
use Rattle.grid_run.specs.Fronts.{FrontAt, front_rules}
use Rattle.grid_run.specs.Seats.{rules_on}
use Rattle.grid_run.proofs.Each.{AreMade}
use Rattle.grid_run.proofs.fronts.fronts_for.Given as goal

-- there are the caches of each shelf that was passed
abbrev pub invariant-loop-shelf : goal.invariant-loop-shelf
invariant-loop-shelf l =
    AreMade front_rules rules_on (λ f. (blocks : List ℕ) → FrontAt blocks [] f) l.shelves
    l.shelf-index l.made.items
