use Rattle.grid_run.proofs.Placed.{on-ok-both}
use Rattle.grid_run.proofs.beside.settle_and_take.Goals as goal

pub returns-clause-taken : goal.returns-clause-taken
returns-clause-taken c =
    on-ok-both c.take_part.result (λ given numbers. record { given = given; numbers = numbers })
    c.take_part.ensures.given c.take_part.ensures.numbers
