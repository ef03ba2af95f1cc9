-- What a source still has to answer, from the bytes that it holds and what its reader will do.
use Rattle.std.specs.Prelude.{◌≡◌, ℕ, ◌+◌, ◌-◌, ◌<◌, List, [], ◌++◌, length, take, drop, Option}
use Rattle.std.specs.Prelude.{Some, None, IsSome, Result, IfOk, Bool, false}
use Rattle.std.specs.Result.{result_err}
use Rattle.din_trace.specs.declared.record.DinRecord.{DinRecord}
use Rattle.din_trace.specs.declared.fault.TraceFault.{TraceFault}
use Rattle.din_trace.specs.declared.backlog.Backlog.{Backlog}
use Rattle.din_trace.specs.declared.backlog.State.{State}
use Rattle.din_trace.specs.declared.backlog.State.TheVariants as state
use Rattle.din_trace.specs.declared.line_reader.LineReader.{LineReader}
use Rattle.din_trace.specs.LineSoFar.{begun}
use Rattle.din_trace.specs.Line.{ADDRESS_MAX}
use Rattle.din_trace.specs.Text.{open_line, Remaining, text_left}
use Rattle.din_trace.specs.Standing.{Stands}
use Rattle.din_trace.specs.Remaining.{Script, first_answer, after_first}
use Rattle.din_trace.specs.State.{is_reading, fault_met}

-- the bytes that came from the reader and are not judged yet
abbrev pub held : Backlog → List ℕ
held b = take (b.filled - b.at) (drop b.at b.buffer.bytes)

-- how many bytes came from the reader
abbrev pub taken : Backlog → ℕ
taken b = b.lines.bytes + (b.filled - b.at)

-- how many more records a source in this state can give at most: each takes at least one byte below
-- the limit, and one more may come from the line that has begun
abbrev pub room_in : State → LineReader → ℕ → ℕ
room_in state.Reading reader limit = limit - reader.bytes + begun reader.so_far
room_in state.Ended reader limit = 0
room_in (state.Failed f) reader limit = 0

-- how many more records a backlog can give at most
abbrev pub room : Backlog → ℕ
room b = room_in b.state b.lines b.limit

-- what is left under the limit, if the line reader goes on with the held bytes and then with what
-- the script gives
abbrev pub ReadingLeft : LineReader → List ℕ → ℕ → Script → Remaining → Type 0
ReadingLeft reader held limit script l = (text : List ℕ) × Stands reader text
    × (l ≡ text_left ADDRESS_MAX reader.line (open_line text ++ (held ++ script.given))
    (length (open_line text) + (limit - reader.bytes)) script.fails)

-- what is left of a source in this state
abbrev pub HasLeftIn : State → LineReader → List ℕ → ℕ → Script → Remaining → Type 0
HasLeftIn state.Reading reader held limit script l = ReadingLeft reader held limit script l
HasLeftIn state.Ended reader held limit script l = l ≡ record { records = []; fault = None }
HasLeftIn (state.Failed f) reader held limit script l = l ≡ record { records = []; fault = Some f }

-- what is left of a source with this backlog
abbrev pub HasLeft : Backlog → Script → Remaining → Type 0
HasLeft b script l = HasLeftIn b.state b.lines (held b) b.limit script l

-- what was left is still left
abbrev pub KeepsLeft : Backlog → Backlog → Type 0
KeepsLeft old new = (script : Script) (l : Remaining) → HasLeft old script l → HasLeft new script l

-- this answer is the first of what was left, and is removed from it
abbrev pub AnswersFirst : Result (Option DinRecord) TraceFault → Backlog → Backlog → Type 0
AnswersFirst answer old new = (script : Script) (l : Remaining) → HasLeft old script l
    → (answer ≡ first_answer l) × HasLeft new script (after_first l)

-- if this answer is a record, fewer can follow
abbrev pub TakesRoom : Result (Option DinRecord) TraceFault → Backlog → Backlog → Type 0
TakesRoom answer old new = IfOk answer (λ found. IsSome found → room new < room old)

-- the reader has ended, or failed (`true`), and with it the source: this answer is the first of
-- what was left, and the rest is left whatever the reader does
pub record EndsWith (fails : Bool) (answer : Result (Option DinRecord) TraceFault)
    (old new : Backlog) : Type 0 where
  pub first : (l : Remaining) → HasLeft old (record { given = []; fails = fails }) l
      → (answer ≡ first_answer l) × ((script : Script) → HasLeft new script (after_first l))
  pub taken_same : taken new ≡ taken old
  pub limit_same : new.limit ≡ old.limit
  pub no_room : room new ≡ 0
  pub closed : is_reading new.state ≡ false
  pub told : fault_met new.state ≡ result_err answer
