-- The laws of lines and texts.
use Rattle.std.specs.Prelude.{◌≡◌, ◌≢◌, ℕ, ◌+◌, ◌<◌, ◌≤◌, List, [], ◌∷◌, ◌++◌, length, take}
use Rattle.std.specs.Prelude.{Bool, true, false, Option, None, Some}
use Rattle.std.specs.List.{All, flat_map}
use Rattle.din_trace.specs.declared.fault.TraceFault.{TraceFault}
use Rattle.din_trace.specs.declared.fault.TraceFault.TheVariants.{Bad, TooLong, Read, Memory}
use Rattle.din_trace.specs.declared.fault.Why.{Why}
use Rattle.din_trace.specs.Line.{Form, Faulty, HasForm, form}
use Rattle.din_trace.specs.Text.{records, fault, failed_fault, text_left, lines, ended_lines}
use Rattle.din_trace.specs.Text.{open_line, line_records, Remaining}

-- each line has exactly one form, the one found from left to right
abbrev pub EachLineHasOneForm : Type 0
EachLineHasOneForm = (bound : ℕ) (line : List ℕ) →
    HasForm bound line (form bound line)
    × ((other : Form) → HasForm bound line other → other ≡ form bound line)

-- the lines that an LF ends, each with its LF, and then what follows the last LF are the text, and
-- there is no other LF in it
pub record IsCut (text : List ℕ) : Type 0 where
  pub whole : flat_map (λ line. line ++ 10 ∷ []) (ended_lines text) ++ open_line text ≡ text
  pub ended : All (All (λ byte. byte ≢ 10)) (ended_lines text)
  pub last : All (λ byte. byte ≢ 10) (open_line text)

-- so it is for each text
abbrev pub TextsAreTheirLines : Type 0
TextsAreTheirLines = (text : List ℕ) → IsCut text

-- the line is not faulty
abbrev pub IsGood : ℕ → List ℕ → Type 0
IsGood bound line = (why : Why) → form bound line ≢ Faulty why

-- of these lines, numbered from 1, the records of those before the first faulty one are left, and
-- its fault; where no line is faulty, the records of all, and the other fault or the end
pub record StopsAtFirstFault (bound : ℕ) (judged : List (List ℕ)) (otherwise : Option TraceFault)
    (left : Remaining) : Type 0 where
  pub first : (before after : List (List ℕ)) (line : List ℕ) (why : Why) →
      judged ≡ before ++ line ∷ after → All (IsGood bound) before →
      form bound line ≡ Faulty why →
      left ≡ record {
        records = line_records bound before;
        fault = Some (Bad (length before + 1) why);
      }
  pub none : All (IsGood bound) judged →
      left ≡ record { records = line_records bound judged; fault = otherwise }

-- which lines of a text are judged, and what is answered where none of them is faulty
pub record HasFirstFault (bound : ℕ) (text : List ℕ) (limit : ℕ) : Type 0 where
  -- all lines of a text within the limit, and then the end
  pub ended : length text ≤ limit
      → StopsAtFirstFault bound (lines text) None (text_left bound 1 text limit false)
  -- if the reader fails after such a text, those that an LF ends, and then `Read`
  pub failed : length text ≤ limit
      → StopsAtFirstFault bound (ended_lines text) (Some Read) (text_left bound 1 text limit true)
  -- of a longer text, those that an LF within the limit ends, and then `TooLong`
  pub too_long : (fails : Bool) → limit < length text
      → StopsAtFirstFault bound (ended_lines (take limit text)) (Some TooLong)
      (text_left bound 1 text limit fails)

-- so it is for each text
abbrev pub FaultIsOfFirstFaultyLine : Type 0
FaultIsOfFirstFaultyLine = (bound : ℕ) (text : List ℕ) (limit : ℕ) → HasFirstFault bound text limit

-- a text without a fault has no fault under a greater bound on addresses, and the same records
abbrev pub WiderAddressesKeepRecords : Type 0
WiderAddressesKeepRecords = (small great : ℕ) → small ≤ great → (text : List ℕ) (limit : ℕ) →
    fault small text limit ≡ None
    → (fault great text limit ≡ None) × (records great text ≡ records small text)

-- what `text_left` says of a whole text, in terms of `records`, `fault` and `failed_fault`
pub record LeavesText (bound : ℕ) (text : List ℕ) (limit : ℕ) : Type 0 where
  -- the fault is that of the text; if there is none, the records are those of the text
  pub fault_is : (text_left bound 1 text limit false).fault ≡ fault bound text limit
  pub records_are : fault bound text limit ≡ None
      → (text_left bound 1 text limit false).records ≡ records bound text
  -- if the reader fails after the text, the fault is that of a failed reader
  pub failed_is : length text ≤ limit
      → (text_left bound 1 text limit true).fault ≡ failed_fault bound text
  -- there is a fault if the reader fails; `Read` is the fault only then
  pub fails : (text_left bound 1 text limit true).fault ≢ None
  pub read : (text_left bound 1 text limit false).fault ≢ Some Read
  -- `TooLong` is the fault only if the text is too long; `Memory` never is
  pub too_long : (fails : Bool) → (text_left bound 1 text limit fails).fault ≡ Some TooLong
      → limit < length text
  pub memory : (fails : Bool) → (text_left bound 1 text limit fails).fault ≢ Some Memory

-- what is left of a whole text is its records and its fault
abbrev pub SourceHasItsTextLeft : Type 0
SourceHasItsTextLeft = (bound : ℕ) (text : List ℕ) (limit : ℕ) → LeavesText bound text limit
