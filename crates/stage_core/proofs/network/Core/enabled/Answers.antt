use Rattle.std.proofs.Common.{length, ap, sym, subst, ◌∙◌}
use Rattle.stage_core.specs.Config.{ring_of}
use Rattle.stage_core.specs.Network.{IsFinished}
use Rattle.stage_core.specs.Network.Cores.{CoreState, Sound, enabled_in, core_of, network_of}
use Rattle.stage_core.specs.Network.Cores.{parts_for}
use Rattle.stage_core.proofs.network.Enabled.{none_finished}
use Rattle.stage_core.proofs.network.Steps.{working}
use Rattle.stage_core.proofs.network.Core.enabled.Goals as goal

pub returns-else-self-clause-goes_on : goal.returns-else-self-clause-goes_on
returns-else-self-clause-goes_on c = λ ok none.
    let core = c.self.inside in
    let works = ap (λ (v : CoreState). v.failed) c.self.view_is ∙ ok in
    let sound : Sound core = c.self.invariant works in
    subst (λ (v : CoreState). IsFinished v.network) c.self.view_is
    (none_finished (parts_for core.config) core.events.items (ring_of core.config)
    sound.runnable.room (network_of core) sound.consistent
    (ap length (sym (working (core_of core) works))
    ∙ ap (λ (v : CoreState). length (enabled_in v)) c.self.view_is ∙ sym c.count.ensures ∙ none))
