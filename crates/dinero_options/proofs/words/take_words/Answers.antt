use Rattle.std.proofs.Common.{◌∙◌, ap, map, string_bytes}
use Rattle.clap.specs.Words.{app_of}
use Rattle.dinero_options.specs.Answer.{refusal_by_kind}
use Rattle.dinero_options.proofs.AnswerLemmas.{accepts_matches, refuses_words}
use Rattle.dinero_options.proofs.words.take_words.Goals as goal

pub returns-in-Ok-clause-ok : goal.returns-in-Ok-clause-ok
returns-in-Ok-clause-ok c =
    accepts_matches (app_of c.args.command) (map string_bytes c.args.words.now) c.in-Ok.matches
    c.requires c.in-Ok.ensures.matches c.in-Ok.ensures.kinds

pub returns-in-Err-clause-err : goal.returns-in-Err-clause-err
returns-in-Err-clause-err c =
    refuses_words (app_of c.args.command) (map string_bytes c.args.words.now) c.in-Err.error
    c.refusal.result c.requires c.in-Err.ensures.passes c.in-Err.ensures.kinds
    (c.refusal.ensures ∙ ap refusal_by_kind c.kind.ensures)
