use Rattle.grid_run.proofs.BankLemmas.{behind-asked, both-served, front-asked}
use Rattle.grid_run.proofs.Placed.{on-ok-both}
use Rattle.grid_run.proofs.banks.settle_on.Goals as goal

pub settle_both-requires-clause-front : goal.settle_both-requires-clause-front
settle_both-requires-clause-front g c κs within =
    let room = c.requires.room in
    let cut = c.split_at_mut-front.ensures.value in
    (room.0, room.1, front-asked _ _ cut room.0 room.1 room.2, room.3)

pub settle_both-requires-clause-behind : goal.settle_both-requires-clause-behind
settle_both-requires-clause-behind g c κs within =
    let room = c.requires.room in
    let cut = c.split_at_mut-front.ensures.value in
    (room.0, room.1, behind-asked _ _ cut room.0 room.1 room.2, room.3)

pub returns-clause-served : goal.returns-clause-served
returns-clause-served g c =
    on-ok-both c.settle_both.result
    (both-served _ _ c.split_at_mut-front.ensures.value c.settle_both.new.front
    c.settle_both.new.behind)
    c.settle_both.ensures.front c.settle_both.ensures.behind
