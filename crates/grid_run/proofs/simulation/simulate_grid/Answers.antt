use Rattle.std.proofs.Common.{rules, ◌≡◌, ℕ, Err, List, Some, refl, subst}
use Rattle.std.proofs.lemmas.Result.{on_ok_weaker}
use Rattle.std.specs.Io.KnownBytes.{Appends}
use Rattle.std.specs.List.{All}
use Rattle.din_trace.specs.Source.{reader_of}
use Rattle.din_trace.specs.Text.{Remaining}
use Rattle.din_trace.specs.declared.record.DinRecord.{DinRecord}
use Rattle.din_trace.proofs.Told.{MayBeLeft, of-text-given, script_of_told}
use Rattle.grid_run.specs.Grids.{table, table_of}
use Rattle.grid_run.specs.Rows.{ServedAll}
use Rattle.grid_run.specs.Workers.{WorkerHasServed}
use Rattle.grid_run.specs.declared.fault.GridFault.TheVariants.{Trace}
use Rattle.grid_run.proofs.simulation.simulate_grid.Goals as goal
use Rattle.grid_run.proofs.simulation.simulate_grid.Goals.{After-serve_trace}
use Rattle.grid_run.proofs.simulation.simulate_grid.Given.{Over}

-- the workers have served what may be left of a reader that will give the text
served : (g : Over) (c : After-serve_trace g) (text : List ℕ)
    → g.R.ByteReader.remaining c.args.reader ≡ Some text
    → (left : Remaining) × MayBeLeft g.R.ByteReader.remaining g.R.ByteReader.failures c.args.reader
    (reader_of c.serve_trace.new.source) text c.args.limit left
    × ServedAll left c.serve_trace.new.crew.workers.items c.serve_trace.result
served g c text known =
    let reads = c.serve_trace.ensures.reads in
    let same : reader_of c.new-source.result ≡ c.args.reader = c.new-source.ensures.reader in
    let script = script_of_told g.R.ByteReader.remaining g.R.ByteReader.failures c.args.reader
    (reader_of c.serve_trace.new.source) text c.args.limit reads.1 reads.0 _ refl
    (rw (same, known) at reads.2.reader) in (
      _,
      script.3,
      reads.3 script.0 script.1 _ script.2 (c.new-source.ensures.left script.0),
    )

pub returns-in_err-serve_trace-clause-trace : goal.returns-in_err-serve_trace-clause-trace
returns-in_err-serve_trace-clause-trace g c text known why is =
    let all =
    served g (goal.at.returns-in_err-serve_trace-clause-trace g c).After-serve_trace text known in
    let met : c.serve_trace.result ≡ Err (Trace why) = search rules in
    all.1.some_fault why (subst (ServedAll all.0 c.serve_trace.new.crew.workers.items) met all.2)

pub returns-clause-table : goal.returns-clause-table
unfolding table_of
returns-clause-table g c text known =
    let all = served g (goal.at.returns-clause-table g c).After-serve_trace text known in
    let ended = subst (ServedAll all.0 c.serve_trace.new.crew.workers.items)
    c.in_ok-serve_trace.was all.2 in
    let good = all.1.no_fault ended.0 in
    on_ok_weaker c.write_table.result
    (λ wrote. (
      good.0,
      subst (λ (rs : List DinRecord).
          Appends (g.W.ByteWriter.contents c.args.writer.now)
          (g.W.ByteWriter.contents c.write_table.new.writer) (table c.args.grid.now rs)) good.1
          wrote,
    ))
    (c.write_table.ensures.table _ ended.1)

pub returns-clause-whole : goal.returns-clause-whole
unfolding table_of
returns-clause-whole g c =
    let reads = c.serve_trace.ensures.reads in
    let same : reader_of c.new-source.result ≡ c.args.reader = c.new-source.ensures.reader in
    let some = of-text-given g.R.ByteReader.remaining g.R.ByteReader.failures c.args.reader
    (reader_of c.serve_trace.new.source) c.args.limit
    (λ rs. All (WorkerHasServed rs) c.serve_trace.new.crew.workers.items) reads.1 reads.0
    (rw same at reads.2.reader)
    (λ before later is. subst (ServedAll _ c.serve_trace.new.crew.workers.items)
    c.in_ok-serve_trace.was (reads.3 before later _ is (c.new-source.ensures.left before))) in
    on_ok_weaker c.write_table.result (λ wrote. (some.0, some.1, some.2, wrote))
    (c.write_table.ensures.table _ some.3)
