use Rattle.std.proofs.Common.{append-nil}
use Rattle.din_trace.proofs.WritesLemmas.{writes_then, writes_as}
use Rattle.cache_report.proofs.report.put_by_class.Goals as goal

pub returns : goal.returns
returns g c =
    writes_as _ _ _ (simp append-nil)
    (writes_then _ _ _ c.in_ok-put_heads.ensures
    (writes_then _ _ _ c.in_ok-put_classes.ensures
    (writes_then _ _ _ c.in_ok-put_classes-2.ensures
    (writes_then _ _ _ c.in_ok-put_rates.ensures
    (writes_then _ _ _ c.in_ok-put_classes-3.ensures
    (writes_then _ _ _ c.in_ok-put_classes-4.ensures c.put_classes-5.ensures))))))
