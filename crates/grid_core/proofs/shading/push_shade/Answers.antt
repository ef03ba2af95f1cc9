use Rattle.std.proofs.Common.{sym, subst}
use Rattle.std.specs.List.{All}
use Rattle.std.proofs.lemmas.List.Elements.{All-push}
use Rattle.grid_core.specs.Plans.{IsNewShade}
use Rattle.grid_core.proofs.shading.push_shade.Goals as goal

pub returns-clause-fresh : goal.returns-clause-fresh
returns-clause-fresh c = λ all. subst (All IsNewShade) (sym c.in_ok-push.ensures.items)
    (All-push IsNewShade c.args.shades.now.items c.in_ok-shade.shade all (record {
      stands = c.in_ok-shade.ensures.stands;
      counted = c.in_ok-shade.ensures.counted;
    }))
