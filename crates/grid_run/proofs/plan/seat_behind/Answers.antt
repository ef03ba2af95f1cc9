use Rattle.grid_run.proofs.BackShelves.{backs-kept, placed-kept, seat-among}
use Rattle.grid_run.proofs.Growing.{at-found}
use Rattle.grid_run.proofs.plan.seat_behind.Goals as goal

pub cell_for-requires : goal.cell_for-requires
cell_for-requires c =
    (at-found _ c.back_for.new.backs.items c.in_ok-family.family c.index_mut.result.now
    c.in_ok-family.ensures.back c.index_mut.ensures.value).shelf.bsize

pub returns-clause-seat : goal.returns-clause-seat
returns-clause-seat c =
    let own = c.in_ok-family.ensures.back in
    seat-among c.back_for.new.backs.items c.in_ok-family.family c.index_mut.result.now
    c.cell_for.new.self own.inside c.index_mut.ensures.value c.args.i c.args.d c.args.geometry
    c.args.policy c.in_ok-cell.cell (at-found _ _ _ _ own c.index_mut.ensures.value)
    c.in_ok-cell.ensures.cell

pub returns-clause-keeps : goal.returns-clause-keeps
returns-clause-keeps c = λ i d r u own.
    backs-kept c.back_for.new.backs.items c.in_ok-family.family c.index_mut.result.now
    c.cell_for.new.self c.in_ok-family.ensures.back.inside c.index_mut.ensures.value
    c.in_ok-cell.ensures.keeps i d r u (c.in_ok-family.ensures.keeps i d r u own)

pub returns-clause-placed : goal.returns-clause-placed
returns-clause-placed c = λ on_i on_d at_i at_d all.
    placed-kept c.back_for.new.backs.items c.in_ok-family.family c.index_mut.result.now
    c.cell_for.new.self c.in_ok-family.ensures.back.inside c.index_mut.ensures.value on_i on_d
    (c.in_ok-family.ensures.placed on_i on_d at_i at_d all)
