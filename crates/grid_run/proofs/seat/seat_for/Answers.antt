use Rattle.grid_run.proofs.Growing.{at-found}
use Rattle.grid_run.proofs.Shelves.{seat-on, seats-kept}
use Rattle.grid_run.proofs.seat.seat_for.Goals as goal

pub cell_for-requires : goal.cell_for-requires
cell_for-requires c =
    (at-found _ c.shelf_for.new.shelves.items c.in_ok-family.family c.index_mut.result.now
    c.in_ok-family.ensures.shelf c.index_mut.ensures.value).bsize

pub returns-clause-seat : goal.returns-clause-seat
returns-clause-seat c =
    let own = c.in_ok-family.ensures.shelf in
    seat-on c.shelf_for.new.shelves.items c.in_ok-family.family c.index_mut.result.now
    c.cell_for.new.self own.inside c.args.geometry c.args.policy c.in_ok-cell.cell
    (at-found _ _ _ _ own c.index_mut.ensures.value) c.in_ok-cell.ensures.cell

pub returns-clause-keeps : goal.returns-clause-keeps
returns-clause-keeps c = λ r s own.
    seats-kept c.shelf_for.new.shelves.items c.in_ok-family.family c.index_mut.result.now
    c.cell_for.new.self c.in_ok-family.ensures.shelf.inside c.index_mut.ensures.value
    c.in_ok-cell.ensures.keeps r s (c.in_ok-family.ensures.keeps r s own)
