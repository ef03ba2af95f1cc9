use Rattle.std.proofs.Common.{◌<◌, length, map, sym, ap, subst, ◌∙◌}
use Rattle.std.proofs.lemmas.List.{length-map, get_or-map}
use Rattle.cache_core.proofs.Steps.{outcome_of-hit}
use Rattle.grid_core.specs.Places.{IsPlace, shadow_placed}
use Rattle.grid_core.specs.Shades.{shade_rules, ShadeHasHit}
use Rattle.grid_core.specs.Shading.{hits_in}
use Rattle.grid_core.specs.StackedCells.{stacked_rules}
use Rattle.grid_core.specs.Written.{no_rules}
use Rattle.grid_core.proofs.singles.shadow_had.Goals as goal

pub returns-in-Together : goal.returns-in-Together
returns-in-Together c = λ h x answered hit.
    let rs = stacked_rules c.args.stacked.now in
    let ss = map shade_rules c.args.shades.now.items in
    c.shadow_had.ensures h x answered
    ∙ ap (λ p. hits_in h x (shadow_placed rs ss p)) (sym c.in-Together.is)

pub returns-in-Apart : goal.returns-in-Apart
returns-in-Apart c = λ h x answered hit.
    let rs = stacked_rules c.args.stacked.now in
    let xs = c.args.shades.now.items in
    let ss = map shade_rules xs in
    let i = c.in-Apart.index in
    let v = c.index.result.now in
    let lt : i < length xs = subst (λ n. i < n) (length-map xs shade_rules)
    (subst (λ p. IsPlace (length rs) (length ss) p) c.in-Apart.is c.requires) in
    c.hit.ensures h x (subst (ShadeHasHit h x) (sym c.index.ensures) (hit i v lt))
    ∙ outcome_of-hit (shade_rules v) h x
    ∙ ap (λ s. hits_in h x (shade_rules s)) c.index.ensures
    ∙ ap (hits_in h x) (sym (get_or-map shade_rules xs i v no_rules lt))
    ∙ ap (λ p. hits_in h x (shadow_placed rs ss p)) (sym c.in-Apart.is)
