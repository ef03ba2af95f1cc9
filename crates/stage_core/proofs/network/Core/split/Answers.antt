use Rattle.std.proofs.Common.{refl, IsSome, sym, ap, subst, ◌∙◌}
use Rattle.stage_core.specs.Network.{Splitter}
use Rattle.stage_core.specs.Network.Pushes.{IsPushed}
use Rattle.stage_core.specs.Network.Cores.{CoreState, Sound, next_in}
use Rattle.stage_core.proofs.network.Steps.{Steps, makes-step, on_ok_by}
use Rattle.stage_core.proofs.network.SplitSteps.{with_push, split-steps}
use Rattle.stage_core.proofs.network.Core.split.Goals as goal

sound : (c : goal.After-self-2-1) → Sound c.self.inside
sound c = c.self.invariant (ap (λ (v : CoreState). v.failed) c.self.view_is ∙ c.requires.works)

steps : (c : goal.After-self-2-1)
    → IsPushed c.index-push.result.now c.self.inside.order c.self.inside.i.to c.self.inside.d.to
    c.push_to-sent.new.order c.push_to-sent.new.i c.push_to-sent.new.d
    → Steps Splitter c.self.inside (with_push c.self.inside c.push_to-sent.new.order
    c.push_to-sent.new.i c.push_to-sent.new.d c.is_err-self-inside.result)
steps c pushed =
    split-steps c.index-push.result.now c.self.inside _ _ _ _ (sound c)
    (subst (λ (v : CoreState). IsSome (next_in v Splitter))
    (sym c.self.view_is) c.requires.possible)
    c.index-push.ensures pushed

pub invariant_of-self : goal.invariant_of-self
invariant_of-self c = λ ok.
    (steps c (on_ok_by c.push_to-sent.result _ c.is_err-self-inside.ensures.value ok
    c.push_to-sent.ensures)).sound

pub returns-clause-made : goal.returns-clause-made
returns-clause-made c =
    makes-step (with_push c.self.inside _ _ _) c.push_to-sent.result _
    c.is_err-self-inside.ensures.value c.self.view_is (λ f. refl) (steps c) c.push_to-sent.ensures
