use Rattle.std.proofs.Common.{◌∙◌, Err, Ok, ap, map, sym}
use Rattle.dinero_options.specs.Answer.{settings_at, text_at}
use Rattle.dinero_options.proofs.AnswerLemmas.{none_refused, refused_first}
use Rattle.dinero_options.proofs.words.read_settings.Goals as goal

pub returns-in-Some-clause-value : goal.returns-in-Some-clause-value
returns-in-Some-clause-value c =
    let by = text_at (map (λ t. t.now) c.args.texts.now) in
    ap Err c.unreadable_fault.ensures
    ∙ sym (refused_first by (settings_at by) c.in-Some.option c.in-Some.ensures)

pub returns-in-None-clause-value : goal.returns-in-None-clause-value
returns-in-None-clause-value c =
    let by = text_at (map (λ t. t.now) c.args.texts.now) in
    ap Ok c.settings_in.ensures.value ∙ sym (none_refused by (settings_at by) c.in-None.ensures)
