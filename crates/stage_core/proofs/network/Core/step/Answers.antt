use Rattle.stage_core.specs.Config.{ring_of}
use Rattle.stage_core.specs.Network.Cores.{parts_for}
use Rattle.stage_core.proofs.network.Enabled.{enabled-some}
use Rattle.stage_core.proofs.network.Core.step.Goals as goal

pub make-requires-clause-possible : goal.make-requires-clause-possible
make-requires-clause-possible c =
    let v = c.args.self.now in
    enabled-some (parts_for v.config) (ring_of v.config) v.network c.args.nth
    c.nth_of-machine.result c.nth_of-machine.ensures
