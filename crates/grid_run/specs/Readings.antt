-- Reading a source in batches.
use Rattle.std.specs.Prelude.{◌≡◌, ◌<◌, ◌≤◌, ◌+◌, ◌++◌, ◌^◌, ℕ, Bool, true, false, List, length}
use Rattle.std.specs.Prelude.{Option, None, Result, Ok, Err}
use Rattle.din_trace.specs.Text.{Remaining}
use Rattle.din_trace.specs.Remaining.{Script, Fate, Follows}
use Rattle.din_trace.specs.Source.{HasLeft, Takes, room_of}
use Rattle.din_trace.specs.declared.record.DinRecord.{DinRecord}
use Rattle.din_trace.specs.declared.source.Source.{Source}
use Rattle.grid_run.specs.Faults.{GridMayAnswer}
use Rattle.grid_run.specs.declared.fault.GridFault.{GridFault}
use Rattle.grid_run.specs.declared.fault.GridFault.TheVariants as fault

-- these records were read, from the start of the calls until now
pub record HasRead {R : Type 0} (remaining : R → Option (List ℕ)) (failures : R → ℕ)
    (start now : Source R) (past : List DinRecord) : Type 0 where
  pub given : List ℕ
  pub fate : Fate
  pub went : Takes remaining failures start now given fate
  pub left : (first last : Script) (l : Remaining) → Follows fate given first last
      → HasLeft start first l → (rest : Remaining) × (l.records ≡ past ++ rest.records)
      × (rest.fault ≡ l.fault) × HasLeft now last rest

-- these were all records, and there was no fault
pub record HasEnded {R : Type 0} (remaining : R → Option (List ℕ)) (failures : R → ℕ)
    (start now : Source R) (past : List DinRecord) : Type 0 where
  pub given : List ℕ
  pub fate : Fate
  pub went : Takes remaining failures start now given fate
  pub all : (first last : Script) (l : Remaining) → Follows fate given first last
      → HasLeft start first l → (l.fault ≡ None) × (l.records ≡ past)

-- a run over the source may answer this fault
pub record HasStopped {R : Type 0} (remaining : R → Option (List ℕ)) (failures : R → ℕ)
    (start now : Source R) (why : GridFault) : Type 0 where
  pub given : List ℕ
  pub fate : Fate
  pub went : Takes remaining failures start now given fate
  pub may : (first last : Script) (l : Remaining) → Follows fate given first last
      → HasLeft start first l → GridMayAnswer l.fault why

-- one more batch was read, with this answer: whether there may be more, or a fault
pub record HasReadBatch {R : Type 0} (remaining : R → Option (List ℕ)) (failures : R → ℕ)
    (old new : Source R) (batch : List DinRecord) (answer : Result Bool GridFault) : Type 0 where
  pub more : (start : Source R) (past : List DinRecord)
      → HasRead remaining failures start old past → answer ≡ Ok true
      → HasRead remaining failures start new (past ++ batch)
  pub ended : (start : Source R) (past : List DinRecord)
      → HasRead remaining failures start old past → answer ≡ Ok false
      → HasEnded remaining failures start new (past ++ batch)
  pub failed : (start : Source R) (past : List DinRecord)
      → HasRead remaining failures start old past → (why : GridFault) → answer ≡ Err why
      → HasStopped remaining failures start new why
  -- want of memory may be answered too, since it may be met beside
  pub memory : (start : Source R) (past : List DinRecord)
      → HasRead remaining failures start old past
      → HasStopped remaining failures start new fault.Memory
  pub full : answer ≡ Ok true → 0 < length batch
  pub room : (going : Bool) → answer ≡ Ok going → length batch + room_of new ≤ room_of old
  pub bounded : (going : Bool) → answer ≡ Ok going → room_of old ≤ 2 ^ 40
