use Rattle.std.proofs.Common.{◌≡◌}
use Rattle.grid_run.specs.Twins.{twin_rules}
use Rattle.grid_run.specs.declared.second_caches.SecondCaches.TheVariants as caches
use Rattle.grid_run.proofs.SecondTurns.{HavePassed}
use Rattle.grid_run.proofs.twins.serve_twins.Given as goal

-- the requests that were passed are served, and there is room for the others
abbrev pub invariant-loop-asked : goal.invariant-loop-asked
invariant-loop-asked l = record {
  passed : HavePassed (caches.Twins l.initial.twins) l.requests l.asked-index
      (caches.Twins l.twins);
  rules : twin_rules l.twins ≡ twin_rules l.initial.twins;
}
