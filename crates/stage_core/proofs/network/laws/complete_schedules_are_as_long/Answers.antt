use Rattle.stage_core.proofs.network.Schedules.{steps-bound, steps-done, schedule-length}
use Rattle.stage_core.proofs.network.laws.complete_schedules_are_as_long.Goals as goal

pub returns : goal.returns
returns c = record { bound = steps-bound; finished = steps-done; schedule = schedule-length }
