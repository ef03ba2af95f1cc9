use Rattle.std.specs.Prelude.{map, string_bytes}
use Rattle.grid_run.specs.Table.{no_figures, refused_line}
use Rattle.din_trace.proofs.WritesLemmas.{writes_then, writes_as}
use Rattle.grid_run.proofs.TableLemmas.{line-parts}
use Rattle.grid_run.proofs.table.write_refused.Goals as goal

pub returns : goal.returns
unfolding refused_line
returns g c =
    let words = map string_bytes c.args.words.now in
    writes_as _ _ _ (line-parts words (no_figures c.args.columns) c.args.fault.now)
    (writes_then _ _ _ c.in_ok-put_words.ensures
    (writes_then _ _ _ c.in_ok-put_no_figures.ensures c.put_last.ensures))
