use Rattle.std.proofs.Common.{rules, tests, ◌∙◌, Bor, sym}
use Rattle.std.proofs.lemmas.Iterator.{YieldsList-from_slice}
use Rattle.std.proofs.lemmas.Iterator.Search.{all_from_yields_List}
use Rattle.std.proofs.lemmas.List.Folds.{list_all-map}
use Rattle.clap.specs.Words.{Text}
use Rattle.dinero_options.specs.Answer.{reads_as}
use Rattle.dinero_options.specs.Options.{kind_of_option}
use Rattle.grid_options.proofs.values.can_read_all.Goals as goal

pub returns : goal.returns
returns c =
    let reads = reads_as (kind_of_option c.args.option) in
    all_from_yields_List (λ (t : Bor Text). reads t.now) _ _ _ c.all.ensures.ran
    (YieldsList-from_slice c.args.values.now cc) (λ x b q k. search (rules, tests))
    ∙ sym (list_all-map reads (λ (t : Bor Text). t.now) c.args.values.now)
