-- The table of a grid over a trace.
use Rattle.std.specs.Prelude.{ℕ, ⊤, List, ◌++◌, map, string_bytes}
use Rattle.std.specs.List.{All, flat_map}
use Rattle.din_trace.specs.Line.{ADDRESS_MAX}
use Rattle.din_trace.specs.Text.{records}
use Rattle.din_trace.specs.declared.record.DinRecord.{DinRecord}
use Rattle.grid_core.specs.FullyAssociative.{shadow_misses}
use Rattle.stage_core.specs.Config.{hierarchy_of}
use Rattle.stage_core.specs.Events.{IsBounded, events, history}
use Rattle.stage_core.specs.SecondLevel.{Hierarchy, parts_in, second_level_requests}
use Rattle.stage_core.specs.SecondLevel.{second_history, totals}
use Rattle.stage_core.specs.declared.message.Side.TheVariants as side
use Rattle.grid_run.specs.Table.{counted_line, head_line, refused_line}
use Rattle.grid_run.specs.declared.figures.Figures.{Figures}
use Rattle.grid_run.specs.declared.figures.ShadowMisses.{ShadowMisses}
use Rattle.grid_run.specs.declared.grid.Columns.{Columns}
use Rattle.grid_run.specs.declared.grid.Grid.{Grid}
use Rattle.grid_run.specs.declared.grid.Row.{Row}
use Rattle.grid_run.specs.declared.grid.Setup.{Setup}
use Rattle.grid_run.specs.declared.grid.Setup.TheVariants.{Simulated, Refused}

-- the fully associative misses of the three caches over a whole event list
abbrev pub shadows_of : Hierarchy → List DinRecord → ShadowMisses
shadows_of c es = record {
  i = shadow_misses c.i (history side.I es);
  d = shadow_misses c.d (history side.D es);
  u = shadow_misses c.u (second_history (second_level_requests (parts_in c) es));
}

-- the figures of a hierarchy over a whole event list
abbrev pub figures_of : Hierarchy → List DinRecord → Figures
figures_of c es = record { totals = totals c es; shadows = shadows_of c es }

-- the line of a row with these words, over the records of a trace, of which it has a selection
abbrev pub setup_line : Columns → List DinRecord → List (List ℕ) → Setup → List ℕ
setup_line columns rs words (Simulated c s) =
    counted_line columns words (figures_of (hierarchy_of c) (events s rs))
setup_line columns rs words (Refused fault) = refused_line columns words (string_bytes fault)

-- the line of a row
abbrev pub row_line : Columns → List DinRecord → Row → List ℕ
row_line columns rs row = setup_line columns rs (map string_bytes row.words.items) row.setup

-- the table of a grid over the records of a trace
unfoldable pub table : Grid → List DinRecord → List ℕ
table grid rs =
    head_line grid.columns (map string_bytes grid.names.items)
    ++ flat_map (row_line grid.columns rs) grid.rows.items

-- the table of a grid over a trace
unfoldable pub table_of : Grid → List ℕ → List ℕ
table_of grid text = table grid (records ADDRESS_MAX text)

-- a row that is simulated has a selection of numbers that are at most 2 ^ 40
abbrev pub IsBoundedSetup : Setup → Type 0
IsBoundedSetup (Simulated c s) = IsBounded s
IsBoundedSetup (Refused fault) = ⊤

-- the same of a row
abbrev pub IsBoundedRow : Row → Type 0
IsBoundedRow row = IsBoundedSetup row.setup

-- the same of all rows of a grid
abbrev pub HasBoundedRows : Grid → Type 0
HasBoundedRows grid = All IsBoundedRow grid.rows.items
