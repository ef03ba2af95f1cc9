use Rattle.std.proofs.Common.{◌≡◌, ◌<◌, List, Option, Some, length, get_or, map, ap, sym}
use Rattle.std.proofs.Common.{subst, ◌∙◌, arith}
use Rattle.std.specs.Io.KnownBytes.{Appends}
use Rattle.std.specs.Prelude.{string_bytes}
use Rattle.std.proofs.lemmas.List.{get_or-map, length-map}
use Rattle.std.proofs.lemmas.Result.{on_ok_weaker}
use Rattle.stage_core.specs.Config.{hierarchy_of}
use Rattle.stage_core.specs.declared.config.Config.{Config}
use Rattle.stage_core.specs.declared.selection.Selection.{Selection}
use Rattle.grid_run.specs.Grids.{setup_line}
use Rattle.grid_run.specs.Lanes.{LaneTask}
use Rattle.grid_run.specs.Rows.{IsPlaceIn, IsPlaceOf, RowHasPlace}
use Rattle.grid_run.specs.Workers.{WorkerHasServed, worker_task}
use Rattle.grid_run.specs.Table.{counted_line}
use Rattle.grid_run.specs.declared.grid.Setup.{Setup}
use Rattle.grid_run.specs.declared.grid.Setup.TheVariants.{Simulated}
use Rattle.grid_run.specs.declared.worker.Worker.{Worker}
use Rattle.grid_run.specs.declared.plan.Place.{Place}
use Rattle.grid_run.proofs.simulation.write_row.Goals as goal

-- a row that is simulated has the place of its configuration
has-place : (ts : List LaneTask) (setup : Setup) (o : Option Place) (c : Config) (s : Selection)
    (p : Place) → setup ≡ Simulated c s → o ≡ Some p → RowHasPlace ts setup o
    → IsPlaceOf ts (hierarchy_of c) s p
has-place ts setup o c s p simulated there has =
    subst (λ (t : Setup). RowHasPlace ts t (Some p)) simulated
    (subst (RowHasPlace ts setup) there has)

-- at a place, there is a lane
lane-inside : (ls : List Worker) (c : Config) (s : Selection) (p : Place)
    → IsPlaceOf (map worker_task ls) (hierarchy_of c) s p → p.lane < length ls
lane-inside ls c s p place = omega (arith, place.lane, length-map ls worker_task)

-- in which it is a place
lane-there : (ls : List Worker) (c : Config) (s : Selection) (p : Place) (l : Worker)
    → l ≡ get_or ls p.lane l → IsPlaceOf (map worker_task ls) (hierarchy_of c) s p
    → IsPlaceIn (worker_task l) (hierarchy_of c) s p
lane-there ls c s p l at place =
    subst (λ (t : LaneTask). IsPlaceIn t (hierarchy_of c) s p)
    (get_or-map worker_task ls p.lane l (worker_task l) (lane-inside ls c s p place)
    ∙ ap worker_task (sym at))
    (place.inside (worker_task l))

pub figures-figures-requires : goal.figures-figures-requires
figures-figures-requires g c =
    let f = c.in-Simulated.field-0 in
    let s = c.in-Simulated.field-1 in
    let p = c.in-Some.place in
    let place = has-place (map worker_task c.args.workers.now) c.args.row.now.setup
    c.args.place.now f s p
    c.in-Simulated.is c.in-Some.is c.requires in (
      hierarchy_of f,
      s,
      lane-there c.args.workers.now f s p c.index-workers-place.result c.index-workers-place.is
          place,
    )

pub returns-in-Some-clause-line : goal.returns-in-Some-clause-line
returns-in-Some-clause-line g c = λ past served.
    let f = c.in-Simulated.field-0 in
    let s = c.in-Simulated.field-1 in
    let p = c.in-Some.place in
    let l = c.index-workers-place.result in
    let words = map string_bytes c.args.row.now.words.items in
    let place = has-place (map worker_task c.args.workers.now) c.args.row.now.setup
    c.args.place.now f s p
    c.in-Simulated.is c.in-Some.is c.requires in
    let inside = lane-inside c.args.workers.now f s p place in
    let there = lane-there c.args.workers.now f s p l c.index-workers-place.is place in
    let taken = subst (WorkerHasServed past) (sym c.index-workers-place.is)
    (served p.lane l inside) in
    let counted = c.figures-figures.ensures (hierarchy_of f) s past there taken in
    let line = ap (λ ws. counted_line c.args.columns (map string_bytes ws) c.figures-figures.result)
    c.deref-in-Some.ensures.value
    ∙ ap (counted_line c.args.columns words) counted
    ∙ ap (setup_line c.args.columns past words) (sym c.in-Simulated.is) in
    on_ok_weaker c.write_counted.result
    (subst (Appends (g.W.ByteWriter.contents c.args.writer.now)
    (g.W.ByteWriter.contents c.write_counted.new.writer)) line)
    c.write_counted.ensures.ok
