use Rattle.stage_core.proofs.network.Given.{given-few}
use Rattle.stage_core.proofs.network.Schedules.{given-done}
use Rattle.stage_core.proofs.network.laws.second_level_is_given_no_more.Goals as goal

pub returns : goal.returns
returns c = record { bound = given-few; finished = given-done }
