use Rattle.stage_core.proofs.Finishes.{finish-ends}
use Rattle.stage_core.proofs.laws.finish_ends_each_stream.Goals as goal

pub returns : goal.returns
returns c = finish-ends
