use Rattle.std.proofs.Common.{◌≡◌, false, ap, sym, ◌∙◌}
use Rattle.stage_core.specs.Network.{Merging}
use Rattle.stage_core.specs.Merging.{wanted}
use Rattle.stage_core.specs.Network.Cores.{CoreState, next_in}
use Rattle.stage_core.proofs.network.Steps.{Steps}
use Rattle.stage_core.proofs.network.MergeSteps.{with_turn, turn-steps}
use Rattle.stage_core.proofs.network.Core.take_turn.Goals as goal
use Rattle.stage_core.proofs.network.Core.take_turn.Goals.{After-turn}

works : (c : After-turn) → c.self.inside.failed ≡ false
works c = ap (λ (v : CoreState). v.failed) c.self.view_is ∙ c.requires.works

steps : (c : After-turn)
    → Steps Merging c.self.inside (with_turn c.self.inside c.pop-turn.new.self c.turn.new.self)
steps c =
    turn-steps c.self.inside c.pop-turn.result _ _ (c.self.invariant (works c))
    (ap (λ (v : CoreState). wanted v.network.at) c.self.view_is ∙ c.requires.wants)
    c.pop-turn.ensures c.turn.ensures

pub invariant_of-self : goal.invariant_of-self
invariant_of-self c = λ ok. (steps c).sound

pub returns-clause-made : goal.returns-clause-made
returns-clause-made c = record {
  step = ap (λ (v : CoreState). next_in v Merging) (sym c.self.view_is) ∙ (steps c).step;
  works = works c;
}
