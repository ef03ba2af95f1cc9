-- What is said of a trace that is refused.
use Rattle.std.specs.Prelude.{ℕ, List, ◌++◌, codes, decimal}
use Rattle.din_trace.specs.declared.fault.Why.{Why}
use Rattle.din_trace.specs.declared.fault.Why.TheVariants as why
use Rattle.din_trace.specs.declared.fault.TraceFault.{TraceFault}
use Rattle.din_trace.specs.declared.fault.TraceFault.TheVariants as trace

-- the word that says what is wrong with a faulty line
abbrev pub why_word : Why → List ℕ
why_word why.Label = codes "label"
why_word why.Gap = codes "gap"
why_word why.Address = codes "address"
why_word why.Range = codes "range"
why_word why.Tail = codes "tail"

-- the message for a fault of the trace
abbrev pub trace_fault_text : TraceFault → List ℕ
trace_fault_text (trace.Bad line why) = codes "line " ++
    (decimal line ++ (codes ": " ++ why_word why))
trace_fault_text trace.TooLong = codes "trace too long"
trace_fault_text trace.Read = codes "trace read failed"
trace_fault_text trace.Memory = codes "out of memory"

-- the exit status for a fault of the trace
abbrev pub trace_status : TraceFault → ℕ
trace_status (trace.Bad line why) = 1
trace_status trace.TooLong = 1
trace_status trace.Read = 4
trace_status trace.Memory = 3
