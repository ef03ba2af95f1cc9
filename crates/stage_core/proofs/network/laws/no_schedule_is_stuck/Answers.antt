use Rattle.stage_core.proofs.network.Kept.{keeps-start}
use Rattle.stage_core.proofs.network.NeverStuck.{never_stuck}
use Rattle.stage_core.proofs.network.Schedules.{run-keeps}
use Rattle.stage_core.proofs.network.laws.no_schedule_is_stuck.Goals as goal

pub returns : goal.returns
returns c = record {
  reached = λ parts es capacity ms n some h none. never_stuck parts es capacity some n
      (run-keeps parts es capacity ms _ n (keeps-start parts es) h).0 none;
  consistent = λ parts es capacity n some k none. never_stuck parts es capacity some n k none;
}
