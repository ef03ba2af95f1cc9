use Rattle.std.proofs.Common.{◌≡◌, ◌∙◌, Some, None, ap, sym, refl}
use Rattle.clap.specs.Words.{first_of, first_value, found_of, rows_of}
use Rattle.clap.proofs.WalkLemmas.{first_value-rows}
use Rattle.dinero_options.specs.Options.{id_of}
use Rattle.dinero_options.proofs.texts.matched_text.Goals as goal

pub returns-in-Some : goal.returns-in-Some
returns-in-Some c =
    let f = found_of c.args.matches.now in
    let found : first_of (id_of c.args.option) (rows_of f) ≡ Some c.in-Some.text.now =
    sym (first_value-rows f (id_of c.args.option)) ∙ ap (first_value f) (sym c.id.ensures)
    ∙ sym c.in-Some.ensures in
    rw found refl

pub returns-in-None : goal.returns-in-None
returns-in-None c =
    let f = found_of c.args.matches.now in
    let found : first_of (id_of c.args.option) (rows_of f) ≡ None =
    sym (first_value-rows f (id_of c.args.option)) ∙ ap (first_value f) (sym c.id.ensures)
    ∙ sym c.in-None.ensures in
    rw found refl
