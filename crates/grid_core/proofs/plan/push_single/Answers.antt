use Rattle.std.proofs.Common.{sym, subst}
use Rattle.std.specs.List.{All}
use Rattle.std.proofs.lemmas.List.Elements.{All-push}
use Rattle.grid_core.specs.Plans.{IsNewSingle}
use Rattle.grid_core.proofs.plan.push_single.Goals as goal

pub returns-clause-fresh : goal.returns-clause-fresh
returns-clause-fresh c = λ all. subst (All IsNewSingle) (sym c.in_ok-push.ensures.items)
    (All-push IsNewSingle c.args.singles.now.items c.in_ok-single.single all (record {
      stands = c.in_ok-single.ensures.stands;
      settled = c.in_ok-single.ensures.settled;
    }))
