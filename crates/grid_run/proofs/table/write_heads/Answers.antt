use Rattle.std.specs.Prelude.{codes, map, string_bytes}
use Rattle.grid_run.specs.Table.{head_line, cache_heads}
use Rattle.din_trace.proofs.WritesLemmas.{writes_then, writes_as}
use Rattle.grid_run.proofs.TableLemmas.{line-parts}
use Rattle.grid_run.proofs.table.write_heads.Goals as goal

pub returns : goal.returns
unfolding head_line
returns g c =
    writes_as _ _ _ (line-parts (map string_bytes c.args.names.now)
    (cache_heads c.args.columns) (codes "fault"))
    (writes_then _ _ _ c.in_ok-put_words.ensures
    (writes_then _ _ _ c.in_ok-put_all_heads.ensures c.put_last.ensures))
