use Rattle.std.specs.Prelude.{codes, map, string_bytes}
use Rattle.grid_run.specs.Table.{counted_line, figure_columns}
use Rattle.din_trace.proofs.WritesLemmas.{writes_then, writes_as}
use Rattle.grid_run.proofs.TableLemmas.{line-parts}
use Rattle.grid_run.proofs.table.write_counted.Goals as goal

pub returns : goal.returns
unfolding counted_line
returns g c =
    let words = map string_bytes c.args.words.now in
    writes_as _ _ _ (line-parts words (figure_columns c.args.columns c.args.figures.now)
    (codes "-"))
    (writes_then _ _ _ c.in_ok-put_words.ensures
    (writes_then _ _ _ c.in_ok-put_figures.ensures c.put_last.ensures))
