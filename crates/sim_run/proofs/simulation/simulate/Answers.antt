use Rattle.std.proofs.Common.{rules, Err, ◌≡◌, List, subst}
use Rattle.din_trace.specs.declared.record.DinRecord.{DinRecord}
use Rattle.din_trace.proofs.Told.{of-text-given}
use Rattle.din_trace.specs.Source.{reader_of}
use Rattle.stage_core.specs.Config.{hierarchy_of, ring_of}
use Rattle.stage_core.specs.Events.{events}
use Rattle.run_threads.specs.declared.fault.RunFault.TheVariants.{Trace}
use Rattle.run_threads.specs.Runs.{HasRun}
use Rattle.sim_run.specs.TraceReport.{report_of}
use Rattle.sim_run.proofs.KnownText.{left-of-text}
use Rattle.sim_run.proofs.simulation.simulate.Goals as goal

pub returns-in_err-settled-clause-trace : goal.returns-in_err-settled-clause-trace
returns-in_err-settled-clause-trace g c text known why is =
    let source = c.new-source.ensures in
    let reads = c.run_pipeline-source.ensures.reads in
    let left = left-of-text g.R.ByteReader.remaining g.R.ByteReader.failures c.args.reader text
    c.args.limit _ c.run_pipeline-source.result.0 reads.0 reads.1 source.reader source.left reads.2
    known in
    let met : c.run_pipeline-source.result.1 ≡ Err (Trace why) = search rules in
    let ended = rw met at reads.3 left.0 left.1 _ left.2 left.3 in
    left.4.some_fault why ended.0

pub returns-clause-run : goal.returns-clause-run
returns-clause-run g c text known =
    let source = c.new-source.ensures in
    let reads = c.run_pipeline-source.ensures.reads in
    let left = left-of-text g.R.ByteReader.remaining g.R.ByteReader.failures c.args.reader text
    c.args.limit _ c.run_pipeline-source.result.0 reads.0 reads.1 source.reader source.left reads.2
    known in
    let ended = rw c.in_ok-settled.was at reads.3 left.0 left.1 _ left.2 left.3 in
    let good = left.4.no_fault ended.0 in (
      good.0,
      subst (λ (t : List DinRecord). HasRun (ring_of c.args.config.now)
          (hierarchy_of c.args.config.now) (events c.args.selection.now t)
          c.in_ok-settled.settled) good.1 ended.1,
    )

pub returns-clause-whole : goal.returns-clause-whole
returns-clause-whole g c =
    let reads = c.run_pipeline-source.ensures.reads in
    of-text-given g.R.ByteReader.remaining g.R.ByteReader.failures c.args.reader
    (reader_of c.run_pipeline-source.result.0) c.args.limit (λ t. HasRun (ring_of c.args.config.now)
    (hierarchy_of c.args.config.now) (events c.args.selection.now t)
    c.in_ok-settled.settled) reads.1 reads.0 (rw c.new-source.ensures.reader at reads.2.reader)
    (λ before later is. let ended = rw c.in_ok-settled.was at reads.3 before later _ is
    (c.new-source.ensures.left before) in (ended.0, ended.1))

pub returns-clause-headline : goal.returns-clause-headline
unfolding report_of
returns-clause-headline g c text known =
    let run = returns-clause-run g c text known in
    (run.0, rw run.1.counted at c.in_ok-write_report.ensures.written.ok)
