-- The rows of the table that a command line asks for.
use Rattle.std.specs.Prelude.{◌≡◌, Bool, true, false, List, Result, Ok, Err, string_bytes}
use Rattle.std.specs.List.{AllZip, list_any}
use Rattle.std.specs.Result.{is_err}
use Rattle.stage_core.specs.Events.{IsBounded}
use Rattle.stage_core.specs.declared.config.Config.{Config}
use Rattle.stage_core.specs.declared.config.ConfigFault.{ConfigFault}
use Rattle.stage_core.specs.declared.selection.Selection.{Selection}
use Rattle.dinero_options.specs.Refusals.{config_fault_text}
use Rattle.grid_options.specs.declared.grid.GridPoint.{GridPoint}
use Rattle.grid_options.specs.declared.grid.ParsedGrid.{ParsedGrid}
use Rattle.grid_run.specs.declared.grid.Columns.{Columns}
use Rattle.grid_run.specs.declared.grid.Columns.TheVariants.{Plain, Full}
use Rattle.grid_run.specs.declared.grid.Grid.{Grid}
use Rattle.grid_run.specs.declared.grid.Row.{Row}
use Rattle.grid_run.specs.declared.grid.Setup.{Setup}
use Rattle.grid_run.specs.declared.grid.Setup.TheVariants.{Simulated, Refused}

-- the configuration of a point is simulated with its selection, or refused with its fault's text
abbrev pub IsSetupOf : Selection → Result Config ConfigFault → Setup → Type 0
IsSetupOf s (Ok c) (Simulated d t) = (d ≡ c) × (t ≡ s)
IsSetupOf s (Ok c) (Refused text) = ⊥
IsSetupOf s (Err f) (Simulated d t) = ⊥
IsSetupOf s (Err f) (Refused text) = string_bytes text ≡ config_fault_text f

-- the row has the words of the point, and what the point asks for
pub record IsRowOf (p : GridPoint) (r : Row) : Type 0 where
  pub words : r.words ≡ p.words
  pub setup : IsSetupOf p.selection p.config r.setup

-- the columns of a table: if it is full, those of the classes stand behind each count
abbrev pub columns_for : Bool → Columns
columns_for true = Full
columns_for false = Plain

-- the grid has the names that are asked for, the columns, and a row for each point, in order
pub record IsGridFor (asked : ParsedGrid) (grid : Grid) : Type 0 where
  pub names : grid.names ≡ asked.names
  pub columns : grid.columns ≡ columns_for asked.full
  pub rows : AllZip IsRowOf asked.points.items grid.rows.items

-- each number of the selection of a point is at most 2 ^ 40
abbrev pub IsBoundedPoint : GridPoint → Type 0
IsBoundedPoint p = IsBounded p.selection

-- was the configuration of some point refused?
abbrev pub has_refused : List GridPoint → Bool
has_refused points = list_any (λ p. is_err p.config) points
