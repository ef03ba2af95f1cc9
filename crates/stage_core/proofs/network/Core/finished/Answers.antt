use Rattle.std.proofs.Common.{◌≡◌, false, length, ap, sym, ◌∙◌, eq-eqb, eqb-true}
use Rattle.stage_core.specs.Config.{ring_of}
use Rattle.stage_core.specs.Network.Cores.{CoreState, parts_for}
use Rattle.stage_core.proofs.network.Enabled.{finished-none}
use Rattle.stage_core.proofs.network.Steps.{working}
use Rattle.stage_core.proofs.network.Core.finished.Goals as goal

pub returns-then-not-self : goal.returns-then-not-self
returns-then-not-self c =
    let v = c.args.self.now in
    let ok : v.failed ≡ false =
    ap (λ (v : CoreState). v.failed) (sym c.self.view_is) ∙ c.if-not-self.true in (
      λ none. record {
        works = ok;
        finished = c.enabled.ensures.goes_on ok (eqb-true c.enabled.result 0 none);
      },
      λ over. eq-eqb c.enabled.result 0 (c.enabled.ensures.count ∙ ap length (working v ok)
          ∙ finished-none (parts_for v.config) (ring_of v.config) v.network over.finished),
    )
