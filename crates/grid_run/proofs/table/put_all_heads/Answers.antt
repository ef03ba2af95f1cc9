use Rattle.din_trace.proofs.WritesLemmas.{writes_then, writes_as}
use Rattle.grid_run.proofs.TableLemmas.{tabbed_words-three}
use Rattle.grid_run.proofs.table.put_all_heads.Goals as goal

pub returns : goal.returns
returns g c =
    writes_as _ _ _ (tabbed_words-three _ _ _)
    (writes_then _ _ _ c.in_ok-put_heads.ensures
    (writes_then _ _ _ c.in_ok-put_heads-2.ensures c.put_heads-3.ensures))
