use Rattle.std.proofs.Common.{◌∙◌, ◌*◌, ◌≤◌, ◌∷◌, [], ap, ap₂, get_or, inr}
use Rattle.std.proofs.Common.{length, map, refl, subst, sym}
use Rattle.std.proofs.lemmas.List.{get_or_default, length-map}
use Rattle.clap.specs.Words.{found_of, rows_of}
use Rattle.dinero_options.specs.Options.{options}
use Rattle.dinero_options.specs.declared.opt.Opt.TheVariants.{L1Isize}
use Rattle.grid_options.specs.Grid.{extended, values_of}
use Rattle.grid_options.specs.Points.{texts_of}
use Rattle.grid_options.proofs.ProductLemmas.{above_test, length-extended, points_more}
use Rattle.grid_options.proofs.ProductLemmas.{some_value, stays_above, within_test}
use Rattle.grid_options.proofs.product.points_in.Goals as goal

pub returns-then-are_too_many-clause-fault : goal.returns-then-are_too_many-clause-fault
returns-then-are_too_many-clause-fault c =
    let rows = rows_of (found_of c.args.matches.now) in
    let i = c.loop-option.option-index in
    let x = get_or options i L1Isize in
    let before = c.as_slice-before.result.now in
    let next = c.as_slice-next.result.now in
    let many = sym (length-map before texts_of)
    ∙ ap length (ap (map texts_of) c.as_slice-before.ensures.value ∙ c.loop-option.invariant.0) in
    let values = sym (length-map next (λ t. t.now))
    ∙ ap length (ap (map (λ t. t.now)) c.as_slice-next.ensures.value ∙ c.in-Ok-values_in.ensures) in
    inr (
      refl,
      stays_above (values_of rows) (some_value rows) options i x ([] ∷ []) 4096
          c.loop-option-test.true (get_or_default options i L1Isize x c.loop-option-test.true)
          (above_test 4096 (length before) (length next) _ _
          (sym c.are_too_many.ensures ∙ c.if-are_too_many.true) many values),
    )

pub loop-option-preserved : goal.loop-option-preserved
loop-option-preserved c =
    let rows = rows_of (found_of c.args.matches.now) in
    let i = c.loop-option.option-index in
    let x = get_or options i L1Isize in
    let before = c.as_slice-before.result.now in
    let next = c.as_slice-next.result.now in
    let points = ap (map texts_of) c.as_slice-before.ensures.value ∙ c.loop-option.invariant.0 in
    let values = ap (map (λ t. t.now)) c.as_slice-next.ensures.value ∙ c.in-Ok-values_in.ensures in
    let all = points_more (values_of rows) (some_value rows) options i x ([] ∷ [])
    c.loop-option-test.true (get_or_default options i L1Isize x c.loop-option-test.true) in
    let size = sym (length-map c.in-Ok-extend.made.items texts_of)
    ∙ ap length c.in-Ok-extend.ensures
    ∙ length-extended (map texts_of before) (map (λ t. t.now) next)
    ∙ ap₂ (λ a b. a * b) (length-map before texts_of) (length-map next (λ t. t.now)) in
    let some = subst (λ n. 1 ≤ n) (sym (ap length c.as_slice-before.ensures.value))
    c.loop-option.invariant.1 in
    let each = subst (λ n. 1 ≤ n) (sym (sym (length-map next (λ t. t.now)) ∙ ap length values))
    (some_value rows x) in
    let bounds = within_test (length c.in-Ok-extend.made.items) (length before) (length next) size
    some each (sym c.are_too_many.ensures ∙ c.if-are_too_many.false) in
    (c.in-Ok-extend.ensures ∙ ap₂ extended points values ∙ sym all, bounds.0, bounds.1)
