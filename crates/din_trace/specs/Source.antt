-- What the contracts say of a source: its reader, how many bytes it took, and what it has left.
use Rattle.std.specs.Prelude.{◌≡◌, ℕ, ◌+◌, false, List, length, Option, Result, MatchResult}
use Rattle.std.specs.Prelude.{IfNone}
use Rattle.din_trace.specs.declared.record.DinRecord.{DinRecord}
use Rattle.din_trace.specs.declared.fault.TraceFault.{TraceFault}
use Rattle.din_trace.specs.declared.source.Source.{Source}
use Rattle.din_trace.specs.declared.backlog.State.TheVariants as state
use Rattle.din_trace.specs.Text.{Remaining}
use Rattle.din_trace.specs.Remaining.{Script, Fate, FateIs}
use Rattle.din_trace.specs.State.{is_reading, fault_met, Closes}
use Rattle.din_trace.specs.Backlog as backlog

-- the reader of a source
unfoldable pub reader_of : {R : Type 0} → Source R → R
reader_of source = source.reader

-- the most bytes that its text may have
unfoldable pub limit_of : {R : Type 0} → Source R → ℕ
limit_of source = source.backlog.limit

-- how many bytes it has taken from its reader
unfoldable pub taken_by : {R : Type 0} → Source R → ℕ
taken_by source = backlog.taken source.backlog

-- how many more records it can give at most
unfoldable pub room_of : {R : Type 0} → Source R → ℕ
room_of source = backlog.room source.backlog

-- what it has left to answer, if its reader acts by the script
unfoldable pub HasLeft : {R : Type 0} → Source R → Script → Remaining → Type 0
HasLeft source script l = backlog.HasLeft source.backlog script l

-- it has ended or failed, and asks its reader no more
unfoldable pub IsSettled : {R : Type 0} → Source R → Type 0
IsSettled source = is_reading source.backlog.state ≡ false

-- the fault that it has met, if it has met one: it answers this fault from then on
unfoldable pub fault_in : {R : Type 0} → Source R → Option TraceFault
fault_in source = fault_met source.backlog.state

-- after an answer that is no record, it is settled
abbrev pub SettlesAt : {R : Type 0} → Result (Option DinRecord) TraceFault → Source R → Type 0
SettlesAt answer source =
    MatchResult answer (λ found. IfNone found (IsSettled source)) (λ _. IsSettled source)

-- it is reading, and has judged every byte that it holds: it has to ask its reader
unfoldable pub MustAsk : {R : Type 0} → Source R → Type 0
MustAsk source =
    (source.backlog.state ≡ state.Reading) × (source.backlog.at ≡ source.backlog.filled)

-- if the reader has ended or failed, the source is settled
unfoldable pub Settles : {R : Type 0} → Fate → Source R → Type 0
Settles fate source = Closes fate source.backlog.state

-- some calls took these bytes from the reader, and left the reader open, ended or failed
pub record Takes {R : Type 0} (remaining : R → Option (List ℕ)) (failures : R → ℕ)
    (old new : Source R) (given : List ℕ) (fate : Fate) : Type 0 where
  pub reader : FateIs fate (remaining (reader_of old)) given (remaining (reader_of new))
      (failures (reader_of old)) (failures (reader_of new))
  pub settles : Settles fate new
  pub taken : taken_by new ≡ taken_by old + length given
