use Rattle.cache_core.specs.Counts.{total_of}
use Rattle.cache_report.specs.Report.{line, rate}
use Rattle.din_trace.proofs.WritesLemmas.{writes_then}
use Rattle.cache_report.proofs.Rows.{columns-written}
use Rattle.cache_report.proofs.report.put_rates.Goals as goal

pub returns : goal.returns
unfolding line
returns g c =
    let m = c.args.misses.now in
    let f = c.args.fetches.now in
    writes_then _ _ _ c.in_ok-put_name.ensures
    (columns-written _ (rate (total_of m) (total_of f)) (rate m.instr f.instr)
    (rate m.read f.read) (rate m.write f.write) (rate m.misc f.misc)
    (rw (c.total.ensures.sum, c.total-2.ensures.sum) at c.in_ok-put_rate.ensures)
    c.in_ok-put_rate-2.ensures c.in_ok-put_rate-3.ensures c.in_ok-put_rate-4.ensures
    c.in_ok-put_rate-5.ensures c.put.ensures)
