use Rattle.stage_core.proofs.network.Kept.{keeps-start, keeps-next}
use Rattle.stage_core.proofs.network.Schedules.{run-keeps}
use Rattle.stage_core.proofs.network.laws.steps_keep_consistency.Goals as goal

pub returns : goal.returns
returns c = record {
  start = keeps-start;
  step = λ parts es capacity m old new k h. keeps-next parts es old k capacity m new h;
  schedule = λ parts es capacity ms n h.
      (run-keeps parts es capacity ms _ n (keeps-start parts es) h).0;
}
