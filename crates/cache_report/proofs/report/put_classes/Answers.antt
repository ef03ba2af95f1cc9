use Rattle.std.proofs.Common.{decimal}
use Rattle.cache_core.specs.Counts.{total_of}
use Rattle.cache_report.specs.Report.{line}
use Rattle.din_trace.proofs.WritesLemmas.{writes_then}
use Rattle.cache_report.proofs.Rows.{columns-written}
use Rattle.cache_report.proofs.report.put_classes.Goals as goal

pub returns : goal.returns
unfolding line
returns g c =
    let p = c.args.counts.now in
    writes_then _ _ _ c.in_ok-put_name.ensures
    (columns-written _ (decimal (total_of p)) (decimal p.instr) (decimal p.read)
    (decimal p.write) (decimal p.misc)
    (rw c.total.ensures.sum at c.in_ok-put_number.ensures) c.in_ok-put_number-2.ensures
    c.in_ok-put_number-3.ensures c.in_ok-put_number-4.ensures c.in_ok-put_number-5.ensures
    c.put.ensures)
