use Rattle.std.proofs.Common.{rules, ◌≡◌, Err, map, string_bytes, subst}
use Rattle.din_trace.proofs.Lent.{lent_fault, lent_gave_all}
use Rattle.run_threads.specs.declared.fault.RunFault.TheVariants.{Trace}
use Rattle.dinero_options.specs.Answer.{AnswersWords}
use Rattle.dinero_pipe.proofs.run.Goals as goal

pub returns-in-Err-clause-words : goal.returns-in-Err-clause-words
returns-in-Err-clause-words g c why is =
    let same : c.in-Err.fault ≡ why = search rules in
    subst (λ w. AnswersWords (map string_bytes c.args.words.now) (Err w)) same
    c.in-Err.ensures.answer

pub returns-in-Ok-report-clause-report : goal.returns-in-Ok-report-clause-report
returns-in-Ok-report-clause-report g c text known =
    let told = c.in-Ok-report.ensures.report text known in (
      told.0,
      record {
        config = c.in-Ok.asked.0;
        selection = c.in-Ok.asked.1;
        asked = c.in-Ok.ensures.answer;
        written = told.1;
      },
    )

pub returns-in-Err-report-clause-accepted : goal.returns-in-Err-report-clause-accepted
returns-in-Err-report-clause-accepted g c why is = record {
  config = c.in-Ok.asked.0;
  selection = c.in-Ok.asked.1;
  asked = c.in-Ok.ensures.answer;
}

pub returns-in-Err-report-clause-trace : goal.returns-in-Err-report-clause-trace
returns-in-Err-report-clause-trace g c text known why is =
    let met : c.report.result ≡ Err (Trace why) = search rules in
    lent_fault (λ lent. lent.now) _ (c.report.ensures.trace text known why met)

pub returns-in-Ok-report-clause-whole : goal.returns-in-Ok-report-clause-whole
returns-in-Ok-report-clause-whole g c =
    let told = c.in-Ok-report.ensures.whole in (
      told.0,
      lent_gave_all (λ lent. lent.now) _ told.1,
      told.2,
      record {
        config = c.in-Ok.asked.0;
        selection = c.in-Ok.asked.1;
        asked = c.in-Ok.ensures.answer;
        written = told.3;
      },
    )
