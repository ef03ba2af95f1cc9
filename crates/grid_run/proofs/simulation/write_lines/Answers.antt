use Rattle.std.proofs.Common.{◌++◌, List, append-nil, ap, map, subst, sym, ◌∙◌}
use Rattle.std.specs.List.{All, flat_map}
use Rattle.std.specs.Io.KnownBytes.{Appends}
use Rattle.std.specs.Prelude.{string_bytes}
use Rattle.std.proofs.lemmas.Result.{on_ok_weaker}
use Rattle.din_trace.proofs.WritesLemmas.{appends_twice}
use Rattle.grid_run.specs.Grids.{row_line, table}
use Rattle.grid_run.specs.Table.{head_line}
use Rattle.grid_run.specs.Workers.{WorkerHasServed}
use Rattle.grid_run.specs.declared.worker.Worker.{Worker}
use Rattle.grid_run.proofs.simulation.write_lines.Goals as goal

pub returns-clause-table : goal.returns-clause-table
unfolding table
returns-clause-table g c = λ past all.
    let columns = c.args.grid.now.columns in
    let names = c.args.grid.now.names.items in
    let rows = c.deref-2.result.now in
    let heads = head_line columns (map string_bytes c.deref.result.now) in
    let lines = flat_map (row_line columns past) rows in
    let whole = ap (λ l. heads ++ l) (append-nil lines)
    ∙ ap (λ ns. head_line columns (map string_bytes ns) ++ lines) c.deref.ensures.value
    ∙ ap (λ rs. head_line columns (map string_bytes names) ++ flat_map (row_line columns past) rs)
    c.deref-2.ensures.value in
    let written = c.in_ok-write_rows.ensures.lines past
    (subst (λ (ts : List Worker). All (WorkerHasServed past) ts) (sym c.deref-4.ensures.value)
    all) in
    on_ok_weaker c.flush.result (λ nothing.
    subst (Appends (g.W.ByteWriter.contents c.args.writer.now)
    (g.W.ByteWriter.contents c.flush.new.self)) whole
    (appends_twice _ _ _ _ _ c.in_ok-write_heads.ensures.ok
    (appends_twice _ _ _ _ _ written nothing))) c.flush.ensures.ok
