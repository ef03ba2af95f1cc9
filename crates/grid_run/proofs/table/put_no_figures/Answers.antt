use Rattle.grid_run.specs.Table.{no_columns}
use Rattle.din_trace.proofs.WritesLemmas.{writes_then, writes_as}
use Rattle.grid_run.proofs.TableLemmas.{tabbed_words-three}
use Rattle.grid_run.proofs.table.put_no_figures.Goals as goal

pub returns : goal.returns
returns g c =
    let none = no_columns c.args.columns in
    writes_as _ _ _ (tabbed_words-three none none none)
    (writes_then _ _ _ c.in_ok-put_no_columns.ensures
    (writes_then _ _ _ c.in_ok-put_no_columns-2.ensures c.put_no_columns-3.ensures))
