use Rattle.grid_core.proofs.WriteBacks.{backs-are-first-writes}
use Rattle.grid_core.proofs.laws.write_backs_are_first_writes.Goals as goal

pub returns : goal.returns
returns c = backs-are-first-writes
