-- The line and the exit status of each fault.
use Rattle.std.specs.Prelude.{ℕ, List, [], ◌∷◌, ◌++◌, codes, Bool, true, false}
use Rattle.std.specs.Prelude.{if◌then◌else◌, Result, Ok, Err}
use Rattle.run_threads.specs.declared.fault.RunFault.{RunFault}
use Rattle.run_threads.specs.declared.fault.RunFault.TheVariants as run
use Rattle.dinero_options.specs.Refusals.{words_fault_text, words_status}
use Rattle.dinero_options.specs.TraceRefusals.{trace_fault_text, trace_status}
use Rattle.dinero_options.specs.declared.fault.WordsFault.TheVariants as words
use Rattle.dinero_pipe.specs.declared.fault.Fault.{Fault}
use Rattle.dinero_pipe.specs.declared.fault.Fault.TheVariants.{Run, Words}

-- the message for a failed run
abbrev pub run_fault_text : RunFault → List ℕ
run_fault_text (run.Trace fault) = trace_fault_text fault
run_fault_text run.Memory = codes "out of memory"
run_fault_text run.Threads = codes "no thread"
run_fault_text run.Cut = codes "pipeline cut"
run_fault_text run.Write = codes "report write failed"

-- the message for a fault
abbrev pub message_of : Fault → List ℕ
message_of (Run fault) = run_fault_text fault
message_of (Words fault) = words_fault_text fault

-- is this the request for help?
abbrev pub asks_for_help : Fault → Bool
asks_for_help (Words words.Help) = true
asks_for_help _ = false

-- the whole line: the program's name, the message and the end of a line; nothing for help
abbrev pub fault_line : Fault → List ℕ
fault_line fault =
    if asks_for_help fault then []
    else codes "dinero_pipe: " ++ (message_of fault ++ 10 ∷ [])

-- the exit status for a failed run
abbrev pub run_status : RunFault → ℕ
run_status (run.Trace fault) = trace_status fault
run_status run.Memory = 3
run_status run.Threads = 3
run_status run.Cut = 3
run_status run.Write = 4

-- the exit status for a fault
abbrev pub status_of : Fault → ℕ
status_of (Run fault) = run_status fault
status_of (Words fault) = words_status fault

-- the exit status after a run: 0, or that of its fault
abbrev pub status_after : Result Unit Fault → ℕ
status_after (Ok ended) = 0
status_after (Err fault) = status_of fault
