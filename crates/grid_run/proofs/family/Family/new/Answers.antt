use Rattle.std.proofs.Common.{◌≡◌, map, ap, sym, subst, ◌∙◌}
use Rattle.std.specs.List.{All}
use Rattle.std.proofs.lemmas.List.Elements.{All-map}
use Rattle.cache_core.specs.Geometry.{bsize_of}
use Rattle.cache_core.specs.History.{Rules}
use Rattle.cache_core.specs.Standing.{rules_from}
use Rattle.cache_core.specs.declared.geometry.Geometry.{Geometry}
use Rattle.cache_core.specs.declared.policy.Policy.{Policy}
use Rattle.grid_run.specs.Families.{bsize_on, family_rules}
use Rattle.grid_run.proofs.family.Family.new.Goals as goal

pub new-requires : goal.new-requires
new-requires c =
    subst (λ (f : Geometry). All (λ g. bsize_of g ≡ bsize_of f) c.geometries.result.now)
    (sym c.first-first.ensures) c.geometries.ensures.alike

pub returns-clause-rules : goal.returns-clause-rules
unfolding family_rules
returns-clause-rules c =
    c.in_ok-engine.ensures.rules
    ∙ ap (λ (p : Policy). map (λ g. rules_from g p) c.geometries.result.now) c.policy.ensures
    ∙ c.geometries.ensures.geometries

pub invariant_of-result : goal.invariant_of-result
invariant_of-result c =
    let alike =
    subst (λ (f : Geometry). All (λ g. bsize_of g ≡ bsize_of f) c.geometries.result.now)
    (sym c.first-first.ensures) c.geometries.ensures.alike in
    record {
      alike = subst (All (λ (r : Rules). r.bsize ≡ bsize_of c.first-first.result))
          (sym c.in_ok-engine.ensures.rules)
          (All-map (λ (r : Rules). r.bsize ≡ bsize_of c.first-first.result)
          (λ g. rules_from g c.policy.result) c.geometries.result.now alike);
      sized = c.in_ok-engine.ensures.bsize;
    }

pub returns-clause-stands : goal.returns-clause-stands
returns-clause-stands c = λ blocks. record { engine = c.in_ok-engine.ensures.stands blocks }

pub returns-clause-bsize : goal.returns-clause-bsize
unfolding bsize_on
returns-clause-bsize c = ap bsize_of c.first-first.ensures
