use Rattle.std.proofs.Common.{ap}
use Rattle.std.proofs.lemmas.Result.{on_ok_weaker}
use Rattle.cache_core.specs.History.{flush}
use Rattle.stage_core.specs.Events.{access_of}
use Rattle.stage_core.specs.Streams.{asked_in, is_finish}
use Rattle.stage_core.proofs.Stands.{one_event_more}
use Rattle.stage_core.proofs.l1_stage.L1Stage.on.Goals as goal

pub returns-in-Ref-clause-stands : goal.returns-in-Ref-clause-stands
returns-in-Ref-clause-stands c =
    on_ok_weaker c.access.result (λ longer before. one_event_more c.args.self.now c.access.new.self
    before c.args.message (access_of c.in-Ref.class c.in-Ref.addr) (ap asked_in c.in-Ref.is)
    (ap is_finish c.in-Ref.is) c.access.ensures.finish longer) c.access.ensures.stands

pub returns-in-Flush-clause-stands : goal.returns-in-Flush-clause-stands
returns-in-Flush-clause-stands c =
    on_ok_weaker c.flush.result (λ longer before. one_event_more c.args.self.now c.flush.new.self
    before c.args.message flush (ap asked_in c.in-Flush.is) (ap is_finish c.in-Flush.is)
    c.flush.ensures.finish longer) c.flush.ensures.stands
