use Rattle.std.proofs.Common.{◌≡◌, ◌++◌, [], get_or, length, take, ap, subst, sym}
use Rattle.std.proofs.Common.{◌∙◌, arith}
use Rattle.std.proofs.lemmas.List.{get_or_default, length-map}
use Rattle.cache_core.specs.History.{Rules}
use Rattle.stage_core.specs.Events.{history}
use Rattle.stage_core.specs.declared.message.Side.TheVariants as side
use Rattle.grid_run.specs.Fetching.{fetched}
use Rattle.grid_run.specs.Fronts.{FrontAt, front_rules}
use Rattle.grid_run.proofs.Behind.{cell-inside, rules-seated}
use Rattle.grid_run.proofs.Growing.{only-changed}
use Rattle.grid_run.proofs.fronts.serve_fetches.Goals as goal

pub returns-then-len-eq1-clause-stands : goal.returns-then-len-eq1-clause-stands
returns-then-len-eq1-clause-stands c = λ blocks es all.
    let items = c.args.fronts.now.items in
    let one : length items ≡ 1 =
    omega (arith, c.len.ensures, c.if-len-eq1.true, c.args.fronts.now.ok.0) in
    let old = subst (FrontAt blocks (history side.I es)) (sym c.index_mut.ensures.value)
    (all 0 _ (omega (arith, one))) in
    only-changed (FrontAt blocks (history side.I (es ++ take c.fetch_on.result c.args.part.now)))
    items c.fetch_on.new.front one (c.fetch_on.ensures.stands blocks es old)

pub returns-then-len-eq1-clause-silent : goal.returns-then-len-eq1-clause-silent
returns-then-len-eq1-clause-silent c = λ blocks es all seat on.
    let items = c.args.fronts.now.items in
    let f = c.index_mut.result.now in
    let one : length items ≡ 1 =
    omega (arith, c.len.ensures, c.if-len-eq1.true, c.args.fronts.now.ok.0) in
    let old = subst (FrontAt blocks (history side.I es)) (sym c.index_mut.ensures.value)
    (all 0 _ (omega (arith, one))) in
    let first : seat.family ≡ 0 =
    omega (arith, on.family, one, length-map items front_rules) in
    let at : f ≡ get_or items seat.family f =
    c.index_mut.ensures.value ∙ get_or_default items 0 _ f (omega (arith, one))
    ∙ ap (λ k. get_or items k f) (sym first) in
    subst (λ (r : Rules). fetched r es (take c.fetch_on.result c.args.part.now) ≡ [])
    (rules-seated items seat f at on)
    (c.fetch_on.ensures.silent blocks es old seat.cell (cell-inside items seat f at on))
