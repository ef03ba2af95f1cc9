-- What the state of a line reader says about the bytes that it has read.
use Rattle.std.specs.Prelude.{◌≡◌, ℕ, ◌+◌, ◌<◌, List, ◌++◌, [], length, None, MatchOption}
use Rattle.din_trace.specs.declared.fault.TraceFault.{TraceFault}
use Rattle.din_trace.specs.declared.fault.TraceFault.TheVariants.{Bad}
use Rattle.din_trace.specs.declared.line_reader.LineReader.{LineReader}
use Rattle.din_trace.specs.Line.{ADDRESS_MAX, form}
use Rattle.din_trace.specs.LineSoFar.{form_from, begun}
use Rattle.din_trace.specs.Text.{CutText, cut, first_fault}

-- the reader has found no fault, and has read the ended lines and the rest, a part of a line
pub record IsAt (reader : LineReader) (text : CutText) : Type 0 where
  pub no_fault : reader.fault ≡ None
  -- no line that ended is faulty
  pub sound : first_fault ADDRESS_MAX 1 text.ended None ≡ None
  -- its line number is one more than the number of LFs
  pub number : reader.line ≡ length text.ended + 1
  -- the rest is empty exactly if no byte of the line was read
  pub empty : begun reader.so_far ≡ 0 → text.rest ≡ []
  pub begins : begun reader.so_far ≡ 1 → 0 < length text.rest
  -- whatever follows, the form of the line is the one that the reader will find
  pub goes_on : (more : List ℕ)
      → form ADDRESS_MAX (text.rest ++ more) ≡ form_from ADDRESS_MAX reader.so_far more

-- `StandsFor`, as the proofs of this crate use it, which need its definition
abbrev pub Stands : LineReader → List ℕ → Type 0
Stands reader text = IsAt reader (cut text)

-- these are the bytes that the reader has read without a fault; an `end` that ended a line counts
-- as an LF
unfoldable pub StandsFor : LineReader → List ℕ → Type 0
StandsFor reader text = Stands reader text

-- the reader has found this fault
unfoldable pub HasFailed : LineReader → TraceFault → Type 0
HasFailed reader fault = MatchOption reader.fault ⊥ (λ why. fault ≡ Bad reader.line why)

-- the reader has found no fault
unfoldable pub HasNoFault : LineReader → Type 0
HasNoFault reader = reader.fault ≡ None

-- how many bytes it has read
unfoldable pub bytes_of : LineReader → ℕ
bytes_of reader = reader.bytes

-- the number of the line that it reads, from 1
unfoldable pub line_of : LineReader → ℕ
line_of reader = reader.line

-- 1 if some byte of that line was read, else 0
unfoldable pub begun_of : LineReader → ℕ
begun_of reader = begun reader.so_far
