-- What a source answers next, and what its reader will do.
use Rattle.std.specs.Prelude.{◌≡◌, ℕ, List, [], ◌∷◌, ◌++◌, drop, Option, Some, None, Bool}
use Rattle.std.specs.Prelude.{true, false, Result, Ok, Err}
use Rattle.std.specs.Io.KnownBytes.{Consumes, IsAtEnd}
use Rattle.din_trace.specs.declared.record.DinRecord.{DinRecord}
use Rattle.din_trace.specs.declared.fault.TraceFault.{TraceFault}
use Rattle.din_trace.specs.Device.{once_more}
use Rattle.din_trace.specs.Text.{Remaining}

-- the answer if no record is left
abbrev pub fault_answer : Option TraceFault → Result (Option DinRecord) TraceFault
fault_answer None = Ok None
fault_answer (Some fault) = Err fault

-- the answer if these records are left, and then this fault or the end
abbrev pub records_answer : List DinRecord → Option TraceFault
    → Result (Option DinRecord) TraceFault
records_answer [] fault = fault_answer fault
records_answer (r ∷ records) fault = Ok (Some r)

-- the next answer: the first of what is left
abbrev pub first_answer : Remaining → Result (Option DinRecord) TraceFault
first_answer l = records_answer l.records l.fault

-- what is left after the next answer: a record is removed; a fault or the end stays
abbrev pub after_first : Remaining → Remaining
after_first l = record { records = drop 1 l.records; fault = l.fault }

-- what a reader will do: give these bytes, and then fail (`true`) or end (`false`)
pub record Script : Type 0 where
  pub given : List ℕ
  pub fails : Bool

-- the state of a reader after some calls: it may give more, has ended, or has failed
pub data Fate : Type 0 where
  Open : Fate
  Ended : Fate
  Failed : Fate

-- a reader that acts by the first script gave these bytes; after that it goes on by the second
-- script, or has ended, or has failed
abbrev pub Follows : Fate → List ℕ → Script → Script → Type 0
Follows Open given before later =
    before ≡ record { given = given ++ later.given; fails = later.fails }
Follows Ended given before later = before ≡ record { given = given; fails = false }
Follows Failed given before later = before ≡ record { given = given; fails = true }

-- what such calls did to the bytes that the reader will give, where these are known, and to its
-- count of failures
abbrev pub FateIs : Fate → Option (List ℕ) → List ℕ → Option (List ℕ) → ℕ → ℕ → Type 0
FateIs Open old given new before after = Consumes old new given × (after ≡ before)
FateIs Ended old given new before after = Consumes old new given × IsAtEnd new × (after ≡ before)
FateIs Failed old given new before after = Consumes old new given × (after ≡ once_more before)
