use Rattle.std.proofs.Common.{ℕ, ◌++◌, ◌∷◌, [], List, get_or, map, take, None, ap, sym, subst}
use Rattle.std.proofs.Common.{◌∙◌, append-nil}
use Rattle.std.specs.List.{flat_map}
use Rattle.std.specs.Io.KnownBytes.{Appends}
use Rattle.std.proofs.lemmas.Grind.{flat_map-append}
use Rattle.std.proofs.lemmas.List.{take_more}
use Rattle.din_trace.proofs.WritesLemmas.{appends_twice}
use Rattle.din_trace.specs.declared.record.DinRecord.{DinRecord}
use Rattle.grid_run.specs.Grids.{row_line}
use Rattle.grid_run.specs.Rows.{RowHasPlace}
use Rattle.grid_run.specs.Workers.{worker_task}
use Rattle.grid_run.specs.declared.grid.Row.{Row}
use Rattle.grid_run.proofs.simulation.write_rows.Goals as goal

pub write_row-requires : goal.write_row-requires
write_row-requires g c =
    let k = c.loop-index.index in
    subst (λ (row : Row). RowHasPlace (map worker_task c.args.workers.now) row.setup
    (get_or c.args.places.now k None)) (sym c.index-rows-index.is)
    (c.requires.each k c.index-rows-index.result None c.loop-index-test.true)

pub loop-index-preserved : goal.loop-index-preserved
loop-index-preserved g c =
    let lines : List DinRecord → Row → List ℕ = row_line c.args.columns in
    let i = c.loop-index.index in
    let rs = c.args.rows.now in
    let r = c.index-rows-index.result in
    record {
      grown = λ past all.
          let longer =
          ap (λ (x : List ℕ). flat_map (lines past) (take i rs) ++ x) (sym (append-nil
          (lines past r)))
          ∙ sym (flat_map-append (lines past) (take i rs) (r ∷ []))
          ∙ ap (λ x. flat_map (lines past) (take i rs ++ x ∷ [])) c.index-rows-index.is
          ∙ ap (flat_map (lines past)) (sym (take_more rs i r c.loop-index-test.true)) in
          subst (Appends (g.W.ByteWriter.contents c.args.writer.now)
          (g.W.ByteWriter.contents c.write_row.new.writer)) longer
          (appends_twice _ _ _ _ _ (c.loop-index.invariant.grown past all)
          (c.in_ok-write_row.ensures.line past all));
      sound = c.in_ok-write_row.ensures.sound ∙ c.loop-index.invariant.sound;
    }
