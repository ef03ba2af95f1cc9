use Rattle.std.proofs.Common.{◌≡◌, ◌-◌, false, ltb, sym, ap, ◌∙◌}
use Rattle.cache_core.specs.Residents.{hits, renewals}
use Rattle.grid_core.specs.Ways.{with_ways}
use Rattle.grid_core.specs.Standing.{rules_of_rows}
use Rattle.grid_core.proofs.Distances.{hits-distance}
use Rattle.cache_core.proofs.MapStep.{suc_pred}
use Rattle.grid_core.proofs.Outcomes.{outcome-kept}
use Rattle.grid_core.proofs.StackRules.{stacked}
use Rattle.grid_core.proofs.outcome.back_in.Goals as goal

pub returns-then-hit : goal.returns-then-hit
returns-then-hit c = λ h x moved is.
    let s = c.args.stack.now in
    let w = c.args.ways in
    outcome-kept (rules_of_rows s) (stacked s) w c.requires.fits h x (w - 1)
    (suc_pred w c.requires.some)
    (ap (λ d. ltb d w) (sym moved.found) ∙ sym is ∙ c.if-hit.true)

pub returns : goal.returns
returns c = λ h x moved is.
    let s = c.args.stack.now in
    let w = c.args.ways in
    let miss : hits (with_ways w (rules_of_rows s)) (renewals (with_ways w (rules_of_rows s)) h) x
    ≡ false = hits-distance (rules_of_rows s) (stacked s) w c.requires.fits h x
    ∙ ap (λ d. ltb d w) (sym moved.found) ∙ sym is ∙ c.if-hit.false in
    moved.backs w c.requires.some c.requires.fits miss ∙ sym c.back.ensures
