use Rattle.std.proofs.Common.{◌≡◌, get_or, refl, subst, ◌∙◌, arith}
use Rattle.std.specs.Prelude.{◌∷◌, if◌then◌else◌}
use Rattle.stage_core.specs.SecondLevel.{read_as}
use Rattle.grid_run.specs.Families.{FamilyStandsBy}
use Rattle.grid_run.specs.Numbering.{is_for, what_of}
use Rattle.grid_run.specs.declared.second_caches.SecondCaches.TheVariants as caches
use Rattle.grid_run.proofs.SecondTurns.{all-passed, can-serve, none-passed, nothing, one-passed}
use Rattle.grid_run.proofs.second_caches.serve_together.Goals as goal

pub loop-asked-init : goal.loop-asked-init
loop-asked-init c = record { passed = none-passed _ _ c.requires.room; rules = refl }

pub serve_own-requires : goal.serve_own-requires
serve_own-requires c = record {
  room = can-serve _ _ _ _ c.loop-asked.invariant.passed c.loop-asked-test.true;
}

pub loop-asked-preserved : goal.loop-asked-preserved
loop-asked-preserved c = record {
  passed = one-passed _ _ _ _ c.loop-asked.invariant.passed c.loop-asked-test.true
      (caches.Family c.serve_own.new.family) c.serve_own.ensures.bsize refl
      (λ blocks q h inside is st.
      let x = get_or c.args.requests.now c.loop-asked.asked-index nothing in
      let first : 0 ≡ q = omega (arith, inside) in
      subst (λ k. FamilyStandsBy blocks c.serve_own.new.family
      (if is_for k x then read_as (what_of x) ∷ h else h)) first
      (c.in_ok-serve_own.ensures.stands blocks h is st));
  rules = c.serve_own.ensures.rules ∙ c.loop-asked.invariant.rules;
}

pub returns-clause-served : goal.returns-clause-served
returns-clause-served c =
    all-passed _ _ _ _ c.loop-asked.invariant.passed c.loop-asked-test.false
