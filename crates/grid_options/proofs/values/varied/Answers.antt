use Rattle.std.proofs.Common.{◌∙◌, ◌∷◌, ◌++◌, [], ap, ap₂, get_or, length, map, nat_lt, sym}
use Rattle.std.specs.Prelude.{if◌then◌else◌}
use Rattle.std.proofs.lemmas.List.{length-map}
use Rattle.std.proofs.lemmas.List.Elements.{filter_more}
use Rattle.clap.specs.Words.{found_of, rows_of}
use Rattle.dinero_options.specs.Options.{options}
use Rattle.dinero_options.specs.declared.opt.Opt.TheVariants.{L1Isize}
use Rattle.grid_options.specs.Grid.{values_of}
use Rattle.grid_options.proofs.values.varied.Goals as goal

pub loop-option-preserved : goal.loop-option-preserved
loop-option-preserved c =
    let rows = rows_of (found_of c.args.matches.now) in
    let x = get_or options c.loop-option.option-index L1Isize in
    c.in_ok-add_varied.ensures
    ∙ ap₂ (λ a n. a ++ (if nat_lt 1 n then x ∷ [] else [])) c.loop-option.invariant
    (sym (length-map c.as_slice.result.now (λ t. t.now))
    ∙ ap length (ap (map (λ t. t.now)) c.as_slice.ensures.value ∙ c.in_ok-values.ensures))
    ∙ sym (filter_more (λ y. nat_lt 1 (length (values_of rows y))) options
    c.loop-option.option-index L1Isize c.loop-option-test.true)
