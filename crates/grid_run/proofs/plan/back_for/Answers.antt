use Rattle.std.proofs.Common.{refl}
use Rattle.std.proofs.lemmas.Result.{on_ok_weaker}
use Rattle.grid_run.specs.Plans.{SuitsBehind}
use Rattle.grid_run.specs.declared.plan.BackShelf.{BackShelf}
use Rattle.grid_run.proofs.BackShelves.{backs-joined, placed-joined}
use Rattle.grid_run.proofs.Growing.{joined-at}
use Rattle.grid_run.proofs.plan.back_for.Goals as goal

pub returns-clause-back : goal.returns-clause-back
returns-clause-back c =
    let x : BackShelf = record { i = c.args.i; d = c.args.d; shelf = c.new-shelf.result } in
    joined-at (SuitsBehind c.args.i c.args.d c.args.geometry c.args.policy) _ _ x c.add_to.result
    c.add_to.ensures.last c.add_to.ensures.joined
    (record { on_i = refl; on_d = refl; shelf = c.new-shelf.ensures.suits })

pub returns-clause-keeps : goal.returns-clause-keeps
returns-clause-keeps c =
    let x : BackShelf = record { i = c.args.i; d = c.args.d; shelf = c.new-shelf.result } in
    on_ok_weaker c.add_to.result
    (backs-joined c.args.backs.now.items c.add_to.new.list.items x) c.add_to.ensures.joined

pub returns-clause-placed : goal.returns-clause-placed
returns-clause-placed c =
    let x : BackShelf = record { i = c.args.i; d = c.args.d; shelf = c.new-shelf.result } in
    on_ok_weaker c.add_to.result
    (placed-joined c.args.backs.now.items c.add_to.new.list.items x) c.add_to.ensures.joined
