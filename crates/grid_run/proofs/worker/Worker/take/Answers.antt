use Rattle.std.proofs.Common.{◌++◌, arith, length-append}
use Rattle.grid_run.proofs.worker.Worker.take.Goals as goal

pub catch_up-requires-clause-room : goal.catch_up-requires-clause-room
catch_up-requires-clause-room g c κs within =
    let room = c.requires.room in (
      room.0 ++ c.args.batch.now,
      (c.take_parts.ensures.taken room.0 room.1).lane c.if-not-self.true,
      omega (arith, room.2, length-append room.0 c.args.batch.now),
    )
