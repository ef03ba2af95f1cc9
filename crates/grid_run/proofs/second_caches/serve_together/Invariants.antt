use Rattle.std.proofs.Common.{◌≡◌}
use Rattle.grid_run.specs.Families.{family_rules}
use Rattle.grid_run.specs.declared.second_caches.SecondCaches.TheVariants as caches
use Rattle.grid_run.proofs.SecondTurns.{HavePassed}
use Rattle.grid_run.proofs.second_caches.serve_together.Given as goal

-- the requests that were passed are served, and there is room for the others
abbrev pub invariant-loop-asked : goal.invariant-loop-asked
invariant-loop-asked l = record {
  passed : HavePassed (caches.Family l.initial.family) l.requests l.asked-index
      (caches.Family l.family);
  rules : family_rules l.family ≡ family_rules l.initial.family;
}
