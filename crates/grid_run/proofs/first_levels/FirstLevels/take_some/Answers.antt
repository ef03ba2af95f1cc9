use Rattle.std.proofs.Common.{◌++◌, Option, option_to_list, sym, subst}
use Rattle.std.proofs.lemmas.Result.{on_ok_weaker}
use Rattle.din_trace.specs.declared.record.DinRecord.{DinRecord}
use Rattle.grid_run.specs.FirstLevels.{HasServed}
use Rattle.grid_run.proofs.StayNumbered.{queues-same}
use Rattle.grid_run.proofs.first_levels.FirstLevels.take_some.Goals as goal

pub returns-in-Some-clause-served : goal.returns-in-Some-clause-served
returns-in-Some-clause-served c =
    on_ok_weaker c.take_event.result (λ served given es ran.
    subst (λ (o : Option DinRecord).
    HasServed given (es ++ option_to_list o) c.take_event.new.self)
    (sym c.in-Some.is) (served given es ran)) c.take_event.ensures.served

pub returns-in-None-clause-numbers : goal.returns-in-None-clause-numbers
returns-in-None-clause-numbers c = queues-same _ _
