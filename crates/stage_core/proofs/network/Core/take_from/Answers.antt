use Rattle.std.proofs.Common.{◌++◌, List, option_to_list, ap, refl, subst, ◌∙◌}
use Rattle.stage_core.specs.Network.{Merging}
use Rattle.stage_core.specs.Merging.{wanted}
use Rattle.stage_core.specs.Standing.{L2StandsFor}
use Rattle.stage_core.specs.Network.Cores.{CoreState, Sound, network_of}
use Rattle.stage_core.specs.declared.message.What.{What}
use Rattle.stage_core.proofs.network.Steps.{Steps, room-above, makes-step, on_ok_by}
use Rattle.stage_core.proofs.network.MergeSteps.{with_taken, take-steps}
use Rattle.stage_core.proofs.network.Core.take_from.Goals as goal

steps : (c : goal.After-self-1)
    → ((before : List What) → L2StandsFor c.self.inside.u before
    → L2StandsFor c.serve_l2-served.new.u (before ++ option_to_list c.take-what.result))
    → Steps Merging c.self.inside (with_taken c.self.inside c.pop_of_side-message.new.i
    c.pop_of_side-message.new.d c.take-what.new.self c.serve_l2-served.new.u
    c.is_err-self-inside.result)
steps c serves =
    let core = c.self.inside in
    let sound : Sound core = c.self.invariant (ap (λ (v : CoreState). v.failed) c.self.view_is
    ∙ c.requires.works) in
    take-steps c.args.side core c.pop_of_side-message.result _ _ _ _ _ sound
    (ap (λ (v : CoreState). wanted v.network.at) c.self.view_is ∙ c.requires.wants)
    c.pop_of_side-message.ensures c.take-what.ensures.stands
    (subst (λ (ws : List What). L2StandsFor c.serve_l2-served.new.u
    ((network_of core).given ++ ws)) c.take-what.ensures.brings
    (serves (network_of core).given sound.caches.u))
    c.serve_l2-served.ensures.rules

pub serve_l2-served-requires : goal.serve_l2-served-requires
serve_l2-served-requires c =
    room-above c.second_level_sees_at_most_two.ensures c.self.inside
    (c.self.invariant (ap (λ (v : CoreState). v.failed) c.self.view_is ∙ c.requires.works))

pub invariant_of-self : goal.invariant_of-self
invariant_of-self c = λ ok.
    (steps c (on_ok_by c.serve_l2-served.result _ c.is_err-self-inside.ensures.value ok
    c.serve_l2-served.ensures.stands)).sound

pub returns-clause-made : goal.returns-clause-made
returns-clause-made c =
    makes-step (with_taken c.self.inside _ _ _ _) c.serve_l2-served.result _
    c.is_err-self-inside.ensures.value c.self.view_is (λ f. refl) (steps c)
    c.serve_l2-served.ensures.stands
