use Rattle.std.proofs.Common.{sym}
use Rattle.stage_core.proofs.network.Schedules.{order-prefix, to-prefix, from-prefix}
use Rattle.stage_core.proofs.network.laws.rings_carry_beginnings.Goals as goal

pub returns : goal.returns
returns c = λ parts es n k. (
  (_, sym (order-prefix parts es n k)),
  (λ s. (_, sym (to-prefix parts es n k s))),
  λ s. let sent = from-prefix parts es n k s in (sent.0, sym sent.1),
)
