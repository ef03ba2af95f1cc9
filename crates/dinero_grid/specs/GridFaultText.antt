-- The line and the exit status of each fault.
use Rattle.std.specs.Prelude.{ℕ, List, [], ◌∷◌, ◌++◌, codes, Bool, true, false}
use Rattle.std.specs.Prelude.{if◌then◌else◌, Option, Result, Ok, Err}
use Rattle.din_trace.specs.Device.{Writes}
use Rattle.din_trace.specs.declared.device.DeviceFailed.{DeviceFailed}
use Rattle.dinero_options.specs.Refusals.{words_status}
use Rattle.dinero_options.specs.TraceRefusals.{trace_fault_text, trace_status}
use Rattle.dinero_options.specs.declared.fault.WordsFault.TheVariants as words
use Rattle.grid_options.specs.Refusals.{HasNoControls, grid_fault_text}
use Rattle.grid_options.specs.declared.fault.GridWordsFault.{GridWordsFault}
use Rattle.grid_options.specs.declared.fault.GridWordsFault.TheVariants as grid_words
use Rattle.grid_run.specs.declared.fault.GridFault.{GridFault}
use Rattle.grid_run.specs.declared.fault.GridFault.TheVariants as run
use Rattle.dinero_grid.specs.declared.fault.Fault.{Fault}
use Rattle.dinero_grid.specs.declared.fault.Fault.TheVariants.{Run, Words}

-- the message for a grid without a table
abbrev pub run_fault_text : GridFault → List ℕ
run_fault_text (run.Trace fault) = trace_fault_text fault
run_fault_text run.Memory = codes "out of memory"
run_fault_text run.Write = codes "table write failed"

-- the message for a fault
abbrev pub message_of : Fault → List ℕ
message_of (Run fault) = run_fault_text fault
message_of (Words fault) = grid_fault_text fault

-- is this the request for help?
abbrev pub asks_for_help : Fault → Bool
asks_for_help (Words (grid_words.Words words.Help)) = true
asks_for_help _ = false

-- the whole line: the program's name, the message and the end of a line; nothing for help
abbrev pub fault_line : Fault → List ℕ
fault_line fault =
    if asks_for_help fault then []
    else codes "dinero_grid: " ++ (message_of fault ++ 10 ∷ [])

-- the line that says, as clap does, what is wrong with words
abbrev pub explanation : List ℕ → List ℕ
explanation said = codes "dinero_grid: " ++ (said ++ 10 ∷ [])

-- a writer was given a line that says what is wrong with words, and has written it or has failed
pub record Explains {W : Type 0} (contents : W → Option (List ℕ)) (failures : W → ℕ) (old new : W)
    : Type 0 where
  pub said : List ℕ
  pub harmless : HasNoControls said
  pub told : Result Unit DeviceFailed
  pub written : Writes contents failures old new told (explanation said)

-- the exit status for a grid without a table
abbrev pub run_status : GridFault → ℕ
run_status (run.Trace fault) = trace_status fault
run_status run.Memory = 3
run_status run.Write = 4

-- the exit status for a refused command line; 0 for help
abbrev pub grid_words_status : GridWordsFault → ℕ
grid_words_status (grid_words.Words fault) = words_status fault
grid_words_status grid_words.Threads = 2
grid_words_status grid_words.TooMany = 2

-- the exit status for a fault
abbrev pub status_of : Fault → ℕ
status_of (Run fault) = run_status fault
status_of (Words fault) = grid_words_status fault

-- the exit status after a run: 0, or 5 if some configuration was refused; or that of its fault
abbrev pub status_after : Result Bool Fault → ℕ
status_after (Ok false) = 0
status_after (Ok true) = 5
status_after (Err fault) = status_of fault
