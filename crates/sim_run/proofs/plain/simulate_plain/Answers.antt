use Rattle.std.proofs.lemmas.Result.{on_ok_weaker}
use Rattle.std.proofs.Common.{◌≡◌, ◌≢◌, ◌∙◌, List, Some, Result, Err, ap}
use Rattle.din_trace.specs.declared.record.DinRecord.{DinRecord}
use Rattle.din_trace.specs.declared.fault.TraceFault.{TraceFault}
use Rattle.din_trace.specs.declared.fault.TraceFault.TheVariants as trace
use Rattle.din_trace.specs.Line.{ADDRESS_MAX}
use Rattle.din_trace.specs.Source.{reader_of}
use Rattle.din_trace.specs.Text.{records}
use Rattle.stage_core.specs.Config.{hierarchy_of}
use Rattle.stage_core.specs.Events.{events}
use Rattle.stage_core.specs.SecondLevel.{totals}
use Rattle.stage_core.specs.declared.config.Config.{Config}
use Rattle.stage_core.specs.declared.selection.Selection.{Selection}
use Rattle.stage_core.specs.declared.totals.Totals.{Totals}
use Rattle.din_trace.proofs.Told.{of-text-given}
use Rattle.run_threads.specs.declared.fault.RunFault.{RunFault}
use Rattle.run_threads.specs.declared.fault.RunFault.TheVariants.{Trace}
use Rattle.run_threads.specs.Faults.{source_fault}
use Rattle.sim_run.specs.TraceReport.{report_of}
use Rattle.sim_run.proofs.KnownText.{left-of-text}
use Rattle.sim_run.proofs.plain.simulate_plain.Goals as goal

-- the counts over what is selected of some records
abbrev totals_over : Config → Selection → List DinRecord → Totals
totals_over c s rs = totals (hierarchy_of c) (events s rs)

-- a fault of the trace is that of the source, and is not `Memory`
only_trace : (of : TraceFault) (why : TraceFault) (result : Result (Unit {0}) RunFault)
    → result ≡ Err (source_fault of) → result ≡ Err (Trace why) → (of ≢ trace.Memory) × (of ≡ why)
only_trace (trace.Bad line w) why result is e = (λ m. cc, cc)
only_trace trace.TooLong why result is e = (λ m. cc, cc)
only_trace trace.Read why result is e = (λ m. cc, cc)
only_trace trace.Memory why result is e = absurd cc

pub returns-in-Err-clause-trace : goal.returns-in-Err-clause-trace
returns-in-Err-clause-trace g c text known why is =
    let source = c.new-source.ensures in
    let reads = c.rest.ensures.reads in
    let left = left-of-text g.R.ByteReader.remaining g.R.ByteReader.failures c.args.reader text
    c.args.limit _ c.rest.new.self reads.0 reads.1 source.reader source.left reads.2 known in
    let fault = rw c.in-Err.is at reads.3 left.0 left.1 _ left.2 left.3 in
    let met = only_trace c.in-Err.fault why _
    (ap (λ (f : RunFault). Err f) c.fault_of_source.ensures) is in
    left.4.some_fault why (fault.0 met.0 ∙ ap (λ (f : TraceFault). Some f) met.1)

pub returns-clause-report : goal.returns-clause-report
unfolding report_of
returns-clause-report g c text known =
    let source = c.new-source.ensures in
    let reads = c.rest.ensures.reads in
    let left = left-of-text g.R.ByteReader.remaining g.R.ByteReader.failures c.args.reader text
    c.args.limit _ c.rest.new.self reads.0 reads.1 source.reader source.left reads.2 known in
    let all = rw c.in-Ok.is at reads.3 left.0 left.1 _ left.2 left.3 in
    let good = left.4.no_fault all.1 in
    let trace_is : c.deref.result.now ≡ records ADDRESS_MAX text =
    c.deref.ensures.value ∙ all.0 ∙ good.1 in
    let counted : c.in-Ok-run_plain.totals
    ≡ totals_over c.args.config.now c.args.selection.now (records ADDRESS_MAX text) =
    c.in-Ok-run_plain.ensures ∙ ap (totals_over c.args.config.now c.args.selection.now) trace_is in
    on_ok_weaker c.write_report.result (λ wrote. (good.0, rw counted at wrote))
    c.write_report.ensures.written.ok

pub returns-clause-whole : goal.returns-clause-whole
unfolding report_of
returns-clause-whole g c =
    let reads = c.rest.ensures.reads in
    let some = of-text-given g.R.ByteReader.remaining g.R.ByteReader.failures c.args.reader
    (reader_of c.rest.new.self) c.args.limit (λ rs. c.deref.result.now ≡ rs) reads.1 reads.0
    (rw c.new-source.ensures.reader at reads.2.reader)
    (λ before later is. let all = rw c.in-Ok.is at reads.3 before later _ is
    (c.new-source.ensures.left before) in (all.1, c.deref.ensures.value ∙ all.0)) in
    let counted : c.in-Ok-run_plain.totals ≡ totals_over c.args.config.now c.args.selection.now
    (records ADDRESS_MAX some.0) =
    c.in-Ok-run_plain.ensures ∙ ap (totals_over c.args.config.now c.args.selection.now) some.3 in
    on_ok_weaker c.write_report.result (λ wrote. (some.0, some.1, some.2, rw counted at wrote))
    c.write_report.ensures.written.ok
