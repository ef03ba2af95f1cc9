use Rattle.stage_core.proofs.Few.{few-events}
use Rattle.stage_core.proofs.laws.selections_make_at_most_two.Goals as goal

pub returns : goal.returns
returns c = few-events
