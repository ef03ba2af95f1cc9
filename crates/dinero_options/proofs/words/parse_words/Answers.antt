use Rattle.std.proofs.Common.{rules, ◌≡◌, ◌∙◌, ap, subst, map, string_bytes, Err}
use Rattle.clap.specs.Words.{found_of, is_simple_and_free, rows_of}
use Rattle.dinero_options.specs.Answer.{AcceptsWords, RefusesWords}
use Rattle.dinero_options.proofs.AnswerLemmas.{answers_refusal, answers_texts}
use Rattle.dinero_options.proofs.words.parse_words.Goals as goal

-- the command is simple and free, so the contracts of clap say what its matches and faults are
pub take_words-requires : goal.take_words-requires
take_words-requires c = ap is_simple_and_free c.in-Ok.ensures

pub returns-in_err-matches-clause-answer : goal.returns-in_err-matches-clause-answer
returns-in_err-matches-clause-answer c =
    let words = map string_bytes c.args.words.now in
    let f = c.in_err-matches.field-0.0 in
    let same : c.from_residual.result ≡ Err f = search rules in
    rw same (answers_refusal words f
    (subst (λ a. RefusesWords a words f) c.in-Ok.ensures c.in_err-matches.ensures.err))

pub returns-clause-answer : goal.returns-clause-answer
returns-clause-answer c =
    let words = map string_bytes c.args.words.now in
    let rows = rows_of (found_of c.in_ok-matches.matches) in
    answers_texts words rows (map (λ t. t.now) c.as_slice.result.now) c.answer.result
    (subst (λ a. AcceptsWords a words rows) c.in-Ok.ensures c.in_ok-matches.ensures.ok)
    (ap (map (λ t. t.now)) c.as_slice.ensures.value ∙ c.in-Ok-matched_texts.ensures)
    c.answer.ensures.value
