use Rattle.std.proofs.Common.{◌++◌, arith, length-append}
use Rattle.std.proofs.lemmas.Result.{on_ok_weaker}
use Rattle.grid_run.proofs.Given.{taken-all, taken-more}
use Rattle.grid_run.proofs.lane.Lane.take.Goals as goal

pub pass_on-requires-clause-taken : goal.pass_on-requires-clause-taken
pass_on-requires-clause-taken g c =
    let room = c.requires.room in
    (room.0 ++ c.args.part.now, taken-more room.1 c.in_ok-work.ensures.given)

pub catch_up-requires-clause-room : goal.catch_up-requires-clause-room
catch_up-requires-clause-room g c κs within =
    let room = c.requires.room in (
      room.0 ++ c.args.part.now,
      taken-more room.1 c.in_ok-work.ensures.given,
      omega (arith, room.2, length-append room.0 c.args.part.now),
    )

pub returns-then-threads-gt1-clause-taken : goal.returns-then-threads-gt1-clause-taken
returns-then-threads-gt1-clause-taken g c = λ records was.
    taken-all (c.pass_on.ensures.given was.past (records ++ c.args.part.now)
    (c.in_ok-work.ensures.given was.past records was.lane))

pub returns-then-much_waits-clause-taken : goal.returns-then-much_waits-clause-taken
returns-then-much_waits-clause-taken g c =
    on_ok_weaker c.catch_up.result (λ given records was.
    taken-all (given (records ++ c.args.part.now) (taken-more was c.in_ok-work.ensures.given)))
    c.catch_up.ensures.given

pub returns-clause-taken : goal.returns-clause-taken
returns-clause-taken g c = λ records was. taken-more was c.in_ok-work.ensures.given
