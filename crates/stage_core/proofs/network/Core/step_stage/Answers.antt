use Rattle.std.proofs.Common.{IsSome, ap, sym, subst, ◌∙◌}
use Rattle.stage_core.specs.Network.{Stage}
use Rattle.stage_core.specs.Network.Sides.{OneChanges}
use Rattle.stage_core.specs.Network.Lanes.{HasStepped}
use Rattle.stage_core.specs.Network.Cores.{CoreState, next_in}
use Rattle.stage_core.proofs.network.Steps.{Steps, on_ok_by}
use Rattle.stage_core.proofs.network.StageSteps.{with_lanes, stage-steps, may-step}
use Rattle.stage_core.proofs.network.Core.step_stage.Goals as goal

steps : (c : goal.After-self-1)
    → OneChanges c.args.side (HasStepped c.ring.result) c.self.inside.i c.self.inside.d
    c.step_of_side-made.new.i c.step_of_side-made.new.d
    → Steps (Stage c.args.side) c.self.inside (with_lanes c.self.inside c.step_of_side-made.new.i
    c.step_of_side-made.new.d c.is_err-self-inside.result)
steps c made =
    stage-steps c.args.side c.self.inside _ _ _
    (c.self.invariant (ap (λ (v : CoreState). v.failed) c.self.view_is ∙ c.requires.works))
    (rw c.ring.ensures.ring at made)

pub step_of_side-made-requires : goal.step_of_side-made-requires
step_of_side-made-requires c =
    rw c.ring.ensures.ring (may-step c.args.side c.self.inside
    (c.self.invariant (ap (λ (v : CoreState). v.failed) c.self.view_is ∙ c.requires.works))
    (subst (λ (v : CoreState). IsSome (next_in v (Stage c.args.side))) (sym c.self.view_is)
    c.requires.possible))

pub invariant_of-self : goal.invariant_of-self
invariant_of-self c = λ ok.
    (steps c (on_ok_by c.step_of_side-made.result _ c.is_err-self-inside.ensures.value ok
    c.step_of_side-made.ensures)).sound
