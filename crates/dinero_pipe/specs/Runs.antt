-- What the program does, from its words and the text of its trace to the bytes that it writes.
use Rattle.std.specs.Prelude.{ℕ, List, Option, Ok}
use Rattle.std.specs.Io.KnownBytes.{Appends}
use Rattle.stage_core.specs.declared.config.Config.{Config}
use Rattle.stage_core.specs.declared.selection.Selection.{Selection}
use Rattle.dinero_options.specs.Answer.{AnswersWords}
use Rattle.sim_run.specs.TraceReport.{report_of}

-- the words ask for a configuration and a selection
pub record AreAccepted (words : List (List ℕ)) : Type 0 where
  pub config : Config
  pub selection : Selection
  pub asked : AnswersWords words (Ok (config, selection))

-- a writer's bytes went on with the report of a text, in the caches and with the selection that the
-- words ask for
pub record HasReport (words : List (List ℕ)) (text : List ℕ) (old new : Option (List ℕ))
    : Type 0 where
  pub config : Config
  pub selection : Selection
  pub asked : AnswersWords words (Ok (config, selection))
  pub written : Appends old new (report_of config selection text)
