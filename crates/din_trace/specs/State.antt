-- Whether a source is reading, or has ended or failed.
use Rattle.std.specs.Prelude.{◌≡◌, Bool, true, false, Option, None, Some, is_none, ⊤, Result}
use Rattle.std.specs.Prelude.{IfNone, MatchResult}
use Rattle.din_trace.specs.declared.record.DinRecord.{DinRecord}
use Rattle.din_trace.specs.declared.fault.TraceFault.{TraceFault}
use Rattle.din_trace.specs.declared.fault.Why.{Why}
use Rattle.din_trace.specs.declared.backlog.State.{State}
use Rattle.din_trace.specs.declared.backlog.State.TheVariants as state
use Rattle.din_trace.specs.Remaining.{Fate, Open, Ended, Failed}

-- a source that is reading has found no faulty line
abbrev pub is_sound : State → Option Why → Bool
is_sound state.Reading fault = is_none fault
is_sound state.Ended fault = true
is_sound (state.Failed f) fault = true

-- the source is reading
abbrev pub is_reading : State → Bool
is_reading state.Reading = true
is_reading state.Ended = false
is_reading (state.Failed f) = false

-- the fault that a source has met, if it has met one
abbrev pub fault_met : State → Option TraceFault
fault_met state.Reading = None
fault_met state.Ended = None
fault_met (state.Failed f) = Some f

-- after its reader has ended or failed, a source is no longer reading
abbrev pub Closes : Fate → State → Type 0
Closes Open state = ⊤
Closes Ended state = is_reading state ≡ false
Closes Failed state = is_reading state ≡ false

-- after an answer that is no record, a source is no longer reading
abbrev pub ClosesAt : Result (Option DinRecord) TraceFault → State → Type 0
ClosesAt answer state =
    MatchResult answer (λ found. IfNone found (is_reading state ≡ false))
    (λ _. is_reading state ≡ false)
