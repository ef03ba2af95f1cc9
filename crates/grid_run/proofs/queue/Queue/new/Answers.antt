use Rattle.stage_core.specs.declared.message.Side.TheVariants as side
use Rattle.grid_run.proofs.queue.Queue.new.Goals as goal

pub senders_for-requires-2-clause-family : goal.senders_for-requires-2-clause-family
senders_for-requires-2-clause-family c = c.requires.family side.D
