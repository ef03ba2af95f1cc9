use Rattle.std.specs.Prelude.{codes}
use Rattle.cache_report.specs.Report.{line}
use Rattle.din_trace.proofs.WritesLemmas.{writes_then}
use Rattle.cache_report.proofs.Rows.{columns-written}
use Rattle.cache_report.proofs.report.put_heads.Goals as goal

pub returns : goal.returns
unfolding line
returns g c =
    writes_then _ _ _ c.in_ok-put_name.ensures
    (columns-written _ (codes "Total") (codes "Instrn") (codes "Read") (codes "Write")
    (codes "Misc") c.in_ok-put_column.ensures c.in_ok-put_column-2.ensures
    c.in_ok-put_column-3.ensures c.in_ok-put_column-4.ensures c.in_ok-put_column-5.ensures
    c.put.ensures)
