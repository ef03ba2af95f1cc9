use Rattle.stage_core.proofs.Selections.{events-themselves}
use Rattle.stage_core.proofs.laws.taking_all_keeps_each_record.Goals as goal

pub returns : goal.returns
returns c = events-themselves
