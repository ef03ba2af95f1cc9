use Rattle.stage_core.proofs.Merged.{merged-streams}
use Rattle.stage_core.proofs.laws.merge_takes_the_requests.Goals as goal

pub returns : goal.returns
returns c = merged-streams
