use Rattle.stage_core.proofs.network.Held.{rings-within}
use Rattle.stage_core.proofs.network.laws.rings_hold_their_capacity.Goals as goal

pub returns : goal.returns
returns c = rings-within
