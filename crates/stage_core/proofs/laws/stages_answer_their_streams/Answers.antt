use Rattle.stage_core.proofs.Messages.{replies-to_side}
use Rattle.stage_core.proofs.laws.stages_answer_their_streams.Goals as goal

pub returns : goal.returns
returns c = replies-to_side
