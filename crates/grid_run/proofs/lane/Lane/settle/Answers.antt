use Rattle.grid_run.proofs.Given.{taken-all}
use Rattle.grid_run.proofs.Placed.{on-ok-both}
use Rattle.grid_run.proofs.lane.Lane.settle.Goals as goal

pub pass_on-requires-clause-taken : goal.pass_on-requires-clause-taken
pass_on-requires-clause-taken g c =
    let room = c.requires.room in (
      room.0,
      record {
        past = room.1.past;
        some = room.1.some;
        lane = c.in_ok-serve.ensures.given room.1.past room.0 room.1.lane;
      },
    )

pub serve-requires-2-clause-room : goal.serve-requires-2-clause-room
serve-requires-2-clause-room g c κs within =
    let room = c.requires.room in (
      room.0,
      taken-all (c.pass_on.ensures.given room.1.past room.0
          (c.in_ok-serve.ensures.given room.1.past room.0 room.1.lane)),
      room.2,
    )

pub returns-clause-settled : goal.returns-clause-settled
returns-clause-settled g c =
    on-ok-both c.serve-2.result (λ given idle records was. record {
      lane = given records records (c.pass_on.ensures.given was.past records
          (c.in_ok-serve.ensures.given was.past records was.lane));
      idle = idle;
    }) c.serve-2.ensures.given c.serve-2.ensures.idle
