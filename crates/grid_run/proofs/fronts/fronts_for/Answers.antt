use Rattle.grid_run.proofs.Each.{made_more}
use Rattle.grid_run.proofs.fronts.fronts_for.Goals as goal

pub loop-shelf-preserved : goal.loop-shelf-preserved
loop-shelf-preserved c =
    made_more c.in_ok-one.one c.loop-shelf.invariant c.in_ok-add_to.ensures.joined
    c.loop-shelf-test.true c.shelf-item.is c.in_ok-one.ensures.rules c.in_ok-one.ensures.stands

pub returns-clause-stands : goal.returns-clause-stands
returns-clause-stands c = λ blocks k d lt. c.loop-shelf.invariant.fresh k d lt blocks
