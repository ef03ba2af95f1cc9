use Rattle.std.proofs.lemmas.Result.{on_ok_weaker}
use Rattle.grid_run.specs.Plans.{ShelfSuits}
use Rattle.grid_run.proofs.Growing.{joined-at}
use Rattle.grid_run.proofs.Shelves.{seats-joined}
use Rattle.grid_run.proofs.seat.shelf_for.Goals as goal

pub returns-clause-shelf : goal.returns-clause-shelf
returns-clause-shelf c =
    joined-at (ShelfSuits c.args.geometry c.args.policy) _ _ _ c.add_to.result c.add_to.ensures.last
    c.add_to.ensures.joined c.new.ensures.suits

pub returns-clause-keeps : goal.returns-clause-keeps
returns-clause-keeps c =
    on_ok_weaker c.add_to.result
    (seats-joined c.args.shelves.now.items c.add_to.new.list.items c.new.result)
    c.add_to.ensures.joined
