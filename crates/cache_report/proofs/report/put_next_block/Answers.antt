use Rattle.din_trace.proofs.WritesLemmas.{writes_then}
use Rattle.cache_report.proofs.report.put_next_block.Goals as goal

pub returns : goal.returns
returns g c = writes_then _ _ _ c.in_ok-put.ensures c.write_block.ensures
