use Rattle.std.proofs.Common.{ap, map, string_bytes, subst}
use Rattle.clap.specs.Words.{found_of, is_simple_and_free, rows_of}
use Rattle.dinero_options.specs.Answer.{AcceptsWords, RefusesWords}
use Rattle.grid_options.proofs.WordsLemmas.{answers_matches, answers_refusal, grid_bounded}
use Rattle.grid_options.proofs.words.parse_grid_words.Goals as goal

-- the command is simple and free, so the contracts of clap say what its matches and faults are
pub take_words-requires : goal.take_words-requires
take_words-requires c = ap is_simple_and_free c.in-Ok.ensures

pub returns-in-Ok-take_words-clause-answer : goal.returns-in-Ok-take_words-clause-answer
returns-in-Ok-take_words-clause-answer c =
    let words = map string_bytes c.args.words.now in
    let rows = rows_of (found_of c.in-Ok-take_words.matches) in
    answers_matches words rows c.answer.result
    (subst (λ a. AcceptsWords a words rows) c.in-Ok.ensures c.in-Ok-take_words.ensures.ok)
    c.answer.ensures

pub returns-in-Ok-take_words-clause-bound : goal.returns-in-Ok-take_words-clause-bound
returns-in-Ok-take_words-clause-bound c =
    grid_bounded (rows_of (found_of c.in-Ok-take_words.matches)) c.answer.result c.answer.ensures

pub returns-in-Err-clause-answer : goal.returns-in-Err-clause-answer
returns-in-Err-clause-answer c =
    let words = map string_bytes c.args.words.now in
    answers_refusal words c.in-Err.fault
    (subst (λ a. RefusesWords a words c.in-Err.fault) c.in-Ok.ensures c.in-Err.ensures.err)
