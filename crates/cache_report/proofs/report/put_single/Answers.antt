use Rattle.std.proofs.Common.{append-nil}
use Rattle.din_trace.proofs.WritesLemmas.{writes_then, writes_as}
use Rattle.cache_report.proofs.report.put_single.Goals as goal

pub returns : goal.returns
returns g c =
    writes_as _ _ _ (simp append-nil)
    (writes_then _ _ _ c.in_ok-put_count.ensures
    (writes_then _ _ _ c.in_ok-put_count-2.ensures
    (writes_then _ _ _ c.in_ok-put_count-3.ensures c.put_count-4.ensures)))
