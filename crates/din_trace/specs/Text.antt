-- The lines of a text, its records and its fault, and what is left of it.
use Rattle.std.specs.Prelude.{ℕ, ◌+◌, ◌==◌, nat_le, if◌then◌else◌, List, [], ◌∷◌, ◌++◌, length}
use Rattle.std.specs.Prelude.{take, Option, Some, None, Result, Ok, Err, Bool, false}
use Rattle.din_trace.specs.declared.record.DinRecord.{DinRecord}
use Rattle.din_trace.specs.declared.fault.TraceFault.{TraceFault}
use Rattle.din_trace.specs.declared.fault.TraceFault.TheVariants.{Bad, TooLong, Read}
use Rattle.din_trace.specs.Line.{Form, Blank, Din, Faulty, form}

-- a text, cut at its LFs: the lines that an LF ends, without that LF, and what follows the last LF
pub record CutText : Type 0 where
  pub ended : List (List ℕ)
  pub rest : List ℕ

-- the cut of a text with one byte more in front, which is no LF
abbrev pub with_first : ℕ → List (List ℕ) → List ℕ → CutText
with_first byte [] rest = record { ended = []; rest = byte ∷ rest }
with_first byte (line ∷ ended) rest = record { ended = (byte ∷ line) ∷ ended; rest = rest }

-- a text, cut at its LFs
abbrev pub cut : List ℕ → CutText
cut [] = record { ended = []; rest = [] }
cut (byte ∷ text) =
    if byte == 10 then record { ended = [] ∷ (cut text).ended; rest = (cut text).rest }
    else with_first byte (cut text).ended (cut text).rest

-- the lines of a text that an LF ends
abbrev pub ended_lines : List ℕ → List (List ℕ)
ended_lines text = (cut text).ended

-- what follows the last LF of a text
abbrev pub open_line : List ℕ → List ℕ
open_line text = (cut text).rest

-- the last line, if no LF ends it: it counts only if it is not empty
abbrev pub last_line : List ℕ → List (List ℕ)
last_line [] = []
last_line (byte ∷ rest) = (byte ∷ rest) ∷ []

-- the lines of a text
abbrev pub lines : List ℕ → List (List ℕ)
lines text = ended_lines text ++ last_line (open_line text)

-- the record of a line of this form, if it holds one
abbrev pub form_records : Form → List DinRecord
form_records Blank = []
form_records (Din r) = r ∷ []
form_records (Faulty why) = []

-- the records of lines
abbrev pub line_records : ℕ → List (List ℕ) → List DinRecord
line_records bound [] = []
line_records bound (line ∷ lines) = form_records (form bound line) ++ line_records bound lines

-- the records of a text, if the greatest address is the bound
abbrev pub records : ℕ → List ℕ → List DinRecord
records bound text = line_records bound (lines text)

-- what lines answer: records, and then a fault or the end
pub record Remaining : Type 0 where
  pub records : List DinRecord
  pub fault : Option TraceFault

-- what is left from a line of this form and number on, given what is left after that line
abbrev pub form_left : Form → ℕ → Remaining → Remaining
form_left Blank number others = others
form_left (Din r) number others = record { records = r ∷ others.records; fault = others.fault }
form_left (Faulty why) number others = record { records = []; fault = Some (Bad number why) }

-- the records of the lines before the first faulty one, and its fault, if the lines are numbered
-- from this number; if no line is faulty, the given fault or the end
abbrev pub lines_left : ℕ → ℕ → List (List ℕ) → Option TraceFault → Remaining
lines_left bound number [] otherwise = record { records = []; fault = otherwise }
lines_left bound number (line ∷ lines) otherwise =
    form_left (form bound line) number (lines_left bound (number + 1) lines otherwise)

-- what is left of a text under a limit of bytes, if its lines are numbered from this number, and if
-- the reader fails (`true`) or ends (`false`) after it; if the text is longer than the limit, only
-- the lines that end within the limit are judged, and if none is faulty the fault is `TooLong`
abbrev pub text_left : ℕ → ℕ → List ℕ → ℕ → Bool → Remaining
text_left bound number text limit fails =
    if nat_le (length text) limit then (
    if fails then lines_left bound number (ended_lines text) (Some Read)
    else lines_left bound number (lines text) None)
    else lines_left bound number (ended_lines (take limit text)) (Some TooLong)

-- the fault of a text under a limit of bytes, if it has one; its lines are numbered from 1, and the
-- first number is the greatest address
abbrev pub fault : ℕ → List ℕ → ℕ → Option TraceFault
fault bound text limit = (text_left bound 1 text limit false).fault

-- the fault of the first faulty line, if the lines are numbered from this number; if no line is
-- faulty, the given one
abbrev pub first_fault : ℕ → ℕ → List (List ℕ) → Option TraceFault → Option TraceFault
first_fault bound number lines otherwise = (lines_left bound number lines otherwise).fault

-- the fault if the reader failed after it gave this text, which is within the limit: that of the
-- first faulty line that ended, or `Read`
abbrev pub failed_fault : ℕ → List ℕ → Option TraceFault
failed_fault bound text = first_fault bound 1 (ended_lines text) (Some Read)

-- what the end of a line of this form and number answers: its record, `None`, or its fault
abbrev pub form_result : ℕ → Form → Result (Option DinRecord) TraceFault
form_result number Blank = Ok None
form_result number (Din r) = Ok (Some r)
form_result number (Faulty why) = Err (Bad number why)

-- what the end of this line answers
abbrev pub line_result : ℕ → ℕ → List ℕ → Result (Option DinRecord) TraceFault
line_result bound number line = form_result number (form bound line)
