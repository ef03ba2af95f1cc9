use Rattle.std.proofs.Common.{rules, ◌≡◌, Err}
use Rattle.din_trace.proofs.WritesLemmas.{appended_kept}
use Rattle.run_threads.specs.declared.fault.RunFault.TheVariants.{Trace}
use Rattle.sim_run.specs.TraceReport.{report_of}
use Rattle.dinero_pipe.proofs.report.Goals as goal

pub returns-in_err-_settled-clause-trace : goal.returns-in_err-_settled-clause-trace
returns-in_err-_settled-clause-trace g c text known why is =
    let met : c.simulate.result ≡ Err (Trace why) = search rules in
    c.simulate.ensures.trace text known why met

pub returns-in-Ok-clause-report : goal.returns-in-Ok-clause-report
returns-in-Ok-clause-report g c text known =
    let told = c.in_ok-_settled.ensures.headline text known in
    (told.0, appended_kept _ _ _ _ told.1 c.in-Ok.ensures.passed)

pub returns-in-Ok-clause-whole : goal.returns-in-Ok-clause-whole
unfolding report_of
returns-in-Ok-clause-whole g c =
    let whole = c.in_ok-_settled.ensures.whole in (
      whole.0,
      whole.1,
      whole.2,
      appended_kept _ _ _ _ (rw whole.3.counted at c.in_ok-_settled.ensures.report)
          c.in-Ok.ensures.passed,
    )
