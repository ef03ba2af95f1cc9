use Rattle.grid_run.proofs.Given.{taken-all}
use Rattle.grid_run.proofs.lane.Lane.catch_up.Goals as goal

pub pass_on-requires-clause-taken : goal.pass_on-requires-clause-taken
pass_on-requires-clause-taken g c =
    let room = c.requires.room in
    (room.0, taken-all (c.in_ok-settle.ensures.settled room.0 room.1).lane)

pub pass_on-requires-clause-idle : goal.pass_on-requires-clause-idle
pass_on-requires-clause-idle g c =
    let room = c.requires.room in (c.in_ok-settle.ensures.settled room.0 room.1).idle

pub returns-clause-given : goal.returns-clause-given
returns-clause-given g c = λ records was.
    c.pass_on.ensures.given records records (c.in_ok-settle.ensures.settled records was).lane
