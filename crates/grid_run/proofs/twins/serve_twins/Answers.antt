use Rattle.std.proofs.Common.{refl, ap, ◌∙◌}
use Rattle.cache_core.specs.History.{Rules}
use Rattle.grid_run.specs.declared.second_caches.SecondCaches.TheVariants as caches
use Rattle.grid_run.proofs.SecondTurns.{all-passed, can-serve, none-passed, one-passed}
use Rattle.grid_run.proofs.twins.serve_twins.Goals as goal

pub loop-asked-init : goal.loop-asked-init
loop-asked-init c = record { passed = none-passed _ _ c.requires.room; rules = refl }

pub serve-requires : goal.serve-requires
serve-requires c = record {
  room = can-serve _ _ _ _ c.loop-asked.invariant.passed c.loop-asked-test.true;
}

pub loop-asked-preserved : goal.loop-asked-preserved
loop-asked-preserved c = record {
  passed = one-passed _ _ _ _ c.loop-asked.invariant.passed c.loop-asked-test.true
      (caches.Twins c.serve.new.self) (ap (λ (r : Rules). r.bsize) c.serve.ensures.rules)
      c.serve.ensures.users c.in_ok-serve.ensures.stands;
  rules = c.serve.ensures.rules ∙ c.loop-asked.invariant.rules;
}

pub returns-clause-served : goal.returns-clause-served
returns-clause-served c =
    all-passed _ _ _ _ c.loop-asked.invariant.passed c.loop-asked-test.false
