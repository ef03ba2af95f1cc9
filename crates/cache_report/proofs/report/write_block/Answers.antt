use Rattle.std.proofs.Common.{append_assoc}
use Rattle.cache_report.specs.Report.{block}
use Rattle.din_trace.proofs.WritesLemmas.{writes_then, writes_as}
use Rattle.cache_report.proofs.report.write_block.Goals as goal

pub returns : goal.returns
unfolding block
returns g c =
    writes_as _ _ _ (simp append_assoc)
    (writes_then _ _ _ c.in_ok-put_by_class.ensures c.put_single.ensures)
