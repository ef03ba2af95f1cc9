use Rattle.grid_run.proofs.worker.Worker.take_part.Goals as goal

pub take-requires-clause-room : goal.take-requires-clause-room
take-requires-clause-room g c κs within =
    let room = c.requires.room in
    (room.0, room.1.lane c.if-not-self.true, room.2)
