-- Which faults a run may answer.
use Rattle.std.specs.Prelude.{◌≡◌, ◌≢◌, ℕ, ⊤, true, false, Option, Some, None, Result, Err}
use Rattle.cache_core.specs.declared.cache.Cache.{Cache}
use Rattle.cache_core.specs.Standing.{has_failed}
use Rattle.din_trace.specs.declared.fault.TraceFault.{TraceFault}
use Rattle.din_trace.specs.declared.fault.TraceFault.TheVariants as trace
use Rattle.run_threads.specs.declared.fault.Stop.{Stop}
use Rattle.run_threads.specs.declared.fault.Stop.TheVariants as stop
use Rattle.run_threads.specs.declared.fault.RunFault.{RunFault}
use Rattle.run_threads.specs.declared.fault.RunFault.TheVariants.{Trace, Memory, Threads, Cut}
use Rattle.run_threads.specs.declared.fault.RunFault.TheVariants.{Write}

-- the fault of a run whose source has this fault
abbrev pub source_fault : TraceFault → RunFault
source_fault (trace.Bad line why) = Trace (trace.Bad line why)
source_fault trace.TooLong = Trace trace.TooLong
source_fault trace.Read = Trace trace.Read
source_fault trace.Memory = Memory

-- the fault of a run if a thread stopped for this reason
abbrev pub fault_of_stop : Stop → RunFault
fault_of_stop stop.Memory = Memory
fault_of_stop stop.Cut = Cut

-- the reason why a thread stopped fits its cache: this has failed if memory was wanting, and works
-- if the thread was cut off
abbrev pub StopFits : Cache → Stop → Type 0
StopFits cache stop.Memory = has_failed cache ≡ true
StopFits cache stop.Cut = has_failed cache ≡ false

-- of several faults, the one of lowest rank is answered: a fault of the trace, a failed allocation,
-- a thread that could not be started, a lost peer, a failed writer
abbrev pub rank : RunFault → ℕ
rank (Trace why) = 0
rank Memory = 1
rank Threads = 2
rank Cut = 3
rank Write = 4

-- if a run answers a fault of the trace, it is the fault that is left of the source
abbrev pub MayAnswer : Option TraceFault → RunFault → Type 0
MayAnswer left (Trace why) = left ≡ Some why
MayAnswer left Memory = ⊤
MayAnswer left Threads = ⊤
MayAnswer left Cut = ⊤
MayAnswer left Write = ⊤

-- if a source had met no fault before a run, and has met one now, this is what the run answers
abbrev pub IsTold : {T : Type 0} → Option TraceFault → Option TraceFault → Result T RunFault
    → Type 0
IsTold before now result =
    before ≡ None → (f : TraceFault) → now ≡ Some f → result ≡ Err (source_fault f)

-- the faults that the threads of a run may have: no failed write, and `Memory` for a failed
-- allocation of the source
abbrev pub IsFaultOfThreads : RunFault → Type 0
IsFaultOfThreads (Trace why) = why ≢ trace.Memory
IsFaultOfThreads Memory = ⊤
IsFaultOfThreads Threads = ⊤
IsFaultOfThreads Cut = ⊤
IsFaultOfThreads Write = ⊥
