use Rattle.grid_run.proofs.BankLemmas.{behind-asked, both-served, front-asked}
use Rattle.grid_run.proofs.Placed.{on-ok-both}
use Rattle.grid_run.proofs.beside.take_on.Goals as goal

pub take_beside-requires-clause-far : goal.take_beside-requires-clause-far
take_beside-requires-clause-far g c κs within =
    let room = c.requires.asked in
    (room.0, room.1, front-asked _ _ c.split_at_mut-far.ensures.value room.0 room.1 room.2, room.3)

pub take_beside-requires-clause-near : goal.take_beside-requires-clause-near
take_beside-requires-clause-near g c κs within =
    let room = c.requires.asked in
    (room.0, room.1, behind-asked _ _ c.split_at_mut-far.ensures.value room.0 room.1 room.2, room.3)

pub returns-clause-served : goal.returns-clause-served
returns-clause-served g c =
    on-ok-both c.take_beside.result
    (both-served _ _ c.split_at_mut-far.ensures.value c.take_beside.new.far
    c.take_beside.new.near)
    c.take_beside.ensures.far c.take_beside.ensures.near
