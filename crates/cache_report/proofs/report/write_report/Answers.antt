use Rattle.std.proofs.Common.{append-nil}
use Rattle.cache_report.specs.Report.{report}
use Rattle.din_trace.proofs.WritesLemmas.{writes_then, writes_as}
use Rattle.cache_report.proofs.report.write_report.Goals as goal

pub returns : goal.returns
unfolding report
returns g c =
    writes_as _ _ _ (simp append-nil)
    (writes_then _ _ _ c.in_ok-write_block.ensures
    (writes_then _ _ _ c.in_ok-put_next_block.ensures
    (writes_then _ _ _ c.in_ok-put_next_block-2.ensures c.flush.ensures)))
