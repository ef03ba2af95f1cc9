-- Which faults a grid may answer.
use Rattle.std.specs.Prelude.{◌≡◌, ⊤, Option, Some}
use Rattle.din_trace.specs.declared.fault.TraceFault.{TraceFault}
use Rattle.din_trace.specs.declared.fault.TraceFault.TheVariants as trace
use Rattle.grid_run.specs.declared.fault.GridFault.{GridFault}
use Rattle.grid_run.specs.declared.fault.GridFault.TheVariants.{Trace, Memory, Write}

-- the fault of a grid whose source has this fault
abbrev pub grid_fault_of : TraceFault → GridFault
grid_fault_of (trace.Bad line why) = Trace (trace.Bad line why)
grid_fault_of trace.TooLong = Trace trace.TooLong
grid_fault_of trace.Read = Trace trace.Read
grid_fault_of trace.Memory = Memory

-- if a grid answers a fault of the trace, it is the fault that is left of the source
abbrev pub GridMayAnswer : Option TraceFault → GridFault → Type 0
GridMayAnswer left (Trace why) = left ≡ Some why
GridMayAnswer left Memory = ⊤
GridMayAnswer left Write = ⊤
