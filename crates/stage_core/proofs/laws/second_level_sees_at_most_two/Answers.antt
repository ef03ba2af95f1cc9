use Rattle.stage_core.proofs.Few.{few-second_level_requests}
use Rattle.stage_core.proofs.laws.second_level_sees_at_most_two.Goals as goal

pub returns : goal.returns
returns c = few-second_level_requests c.write_backs_are_charged.ensures.accesses
    c.write_backs_are_charged.ensures.flushes
