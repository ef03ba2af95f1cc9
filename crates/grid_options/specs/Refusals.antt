-- What is said of words that are refused.
use Rattle.std.specs.Prelude.{◌≡◌, ◌⊎◌, ℕ, false, List, [], codes}
use Rattle.std.specs.Char.{is_control}
use Rattle.std.specs.List.{All}
use Rattle.std.specs.Str.{encode_utf8_all}
use Rattle.clap.specs.Words.{IsAmong, Text, fault_of}
use Rattle.clap.specs.declared.error.kind.ErrorKind.TheVariants.{DisplayHelp}
use Rattle.dinero_options.specs.Refusals.{words_fault_text}
use Rattle.grid_options.specs.Grid.{grid_app}
use Rattle.grid_options.specs.declared.fault.GridWordsFault.{GridWordsFault}
use Rattle.grid_options.specs.declared.fault.GridWordsFault.TheVariants.{Words, Threads, TooMany}

-- the message for a refused command line; empty for help
abbrev pub grid_fault_text : GridWordsFault → List ℕ
grid_fault_text (Words fault) = words_fault_text fault
grid_fault_text Threads = codes "--threads: not a number from 0 to 1024"
grid_fault_text TooMany = codes "grid has more than 4096 configurations"

-- the text has no control character, which could end the line or steer a terminal
pub record HasNoControls (text : List ℕ) : Type 0 where
  pub characters : List ℕ
  pub spelled : encode_utf8_all characters ≡ text
  pub harmless : All (λ c. is_control c ≡ false) characters

-- clap names no reason to refuse the words, or help is among its reasons
abbrev pub IsUnexplained : List Text → Type 0
IsUnexplained words =
    (fault_of grid_app words ≡ []) ⊎ IsAmong DisplayHelp (fault_of grid_app words)
