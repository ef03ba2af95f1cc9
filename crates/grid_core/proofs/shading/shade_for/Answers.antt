use Rattle.std.proofs.Common.{◌<◌, map, subst, arith}
use Rattle.std.proofs.lemmas.List.{length-map}
use Rattle.grid_core.specs.Shades.{shade_rules}
use Rattle.grid_core.proofs.Seats.{begins-same, shadow-as-large}
use Rattle.grid_core.proofs.shading.shade_for.Goals as goal

pub returns-then-policy-clause-shadow : goal.returns-then-policy-clause-shadow
returns-then-policy-clause-shadow c = shadow-as-large c.as_large.new.together.items c.args.geometry
    c.args.policy c.in_ok-index.index c.in_ok-index.ensures.found c.if-policy.true

pub returns-then-policy-clause-some : goal.returns-then-policy-clause-some
returns-then-policy-clause-some c = let inside = c.in_ok-index.ensures.found.inside in omega arith

pub returns-then-policy-clause-shades : goal.returns-then-policy-clause-shades
returns-then-policy-clause-shades c = begins-same (map shade_rules c.args.shades.now.items)

pub returns-clause-there : goal.returns-clause-there
returns-clause-there c =
    let xs = c.shade_apart.new.shades.items in
    subst (λ n. c.in_ok-shade.shade < n) (length-map xs shade_rules)
    c.in_ok-shade.ensures.found.inside
