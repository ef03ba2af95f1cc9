use Rattle.grid_run.proofs.worker.Worker.settle.Goals as goal

pub settle-requires-clause-room : goal.settle-requires-clause-room
settle-requires-clause-room g c κs within =
    let room = c.requires.room in
    (room.0, room.1.lane c.if-not-self.true, room.2)
