-- What the program does, from its words and the text of its trace to the bytes that it writes.
use Rattle.std.specs.Prelude.{◌≡◌, ℕ, Bool, List, Option, Ok}
use Rattle.std.specs.Io.KnownBytes.{Appends}
use Rattle.grid_options.specs.Grid.{AnswersGridWords}
use Rattle.grid_options.specs.declared.grid.ParsedGrid.{ParsedGrid}
use Rattle.grid_run.specs.Grids.{table_of}
use Rattle.grid_run.specs.declared.grid.Grid.{Grid}
use Rattle.dinero_grid.specs.AskedRows.{IsGridFor, has_refused}

-- the words ask for a grid
pub record AreAccepted (words : List (List ℕ)) : Type 0 where
  pub parsed : ParsedGrid
  pub asked : AnswersGridWords words (Ok parsed)

-- a writer's bytes went on with the table of a text for the grid that the words ask for, and `some`
-- tells whether some configuration was refused
pub record HasTable (words : List (List ℕ)) (text : List ℕ) (some : Bool)
    (old new : Option (List ℕ)) : Type 0 where
  pub parsed : ParsedGrid
  pub asked : AnswersGridWords words (Ok parsed)
  pub grid : Grid
  pub rows : IsGridFor parsed grid
  pub refused : some ≡ has_refused parsed.points.items
  pub written : Appends old new (table_of grid text)
