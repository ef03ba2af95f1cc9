use Rattle.std.proofs.Common.{◌≡◌, ap, ◌∙◌}
use Rattle.cache_core.specs.Standing.{rules_from}
use Rattle.cache_core.specs.declared.geometry.Geometry.{Geometry}
use Rattle.cache_core.specs.declared.policy.Policy.{Policy}
use Rattle.stage_core.proofs.network.Start.{same-rules-took}
use Rattle.stage_core.proofs.network.Levels.new.Goals as goal

same-rules : {g g' : Geometry} {p p' : Policy} → g ≡ g' → p ≡ p'
    → rules_from g p ≡ rules_from g' p'
same-rules {g' = g'} {p = p} eg ep = ap (λ x. rules_from x p) eg ∙ ap (rules_from g') ep

pub returns-clause-caches : goal.returns-clause-caches
returns-clause-caches c =
    let i = c.in_ok-new.ensures in
    let d = c.in_ok-new-2.ensures in
    let u = c.in_ok-new-3.ensures in
    record {
      i = same-rules-took (same-rules c.i.ensures.geometry c.i.ensures.policy) i.stands;
      d = same-rules-took (same-rules c.d.ensures.geometry c.d.ensures.policy) d.stands;
      u = u.stands;
      u_rules = u.rules ∙ same-rules c.u.ensures.geometry c.u.ensures.policy;
    }
