-- The form of a line, from what was read of it and the bytes that follow.
use Rattle.std.specs.Prelude.{◌≡◌, ℕ, ◌+◌, ◌*◌, nat_lt, if◌then◌else◌, List, ◌∷◌, Option, Some}
use Rattle.std.specs.Prelude.{None, Result, Ok, Err, fold}
use Rattle.std.specs.Char.{digit_value}
use Rattle.din_trace.specs.declared.record.Label.{Label}
use Rattle.din_trace.specs.declared.record.DinRecord.{DinRecord}
use Rattle.din_trace.specs.declared.fault.Why.{Why}
use Rattle.din_trace.specs.declared.fault.Why.TheVariants as why
use Rattle.din_trace.specs.declared.line.LineSoFar.{LineSoFar}
use Rattle.din_trace.specs.declared.line.LineSoFar.TheVariants as so_far
use Rattle.din_trace.specs.Line.{Form, Blank, Din, Faulty, is_blank, is_hex, front, after}
use Rattle.din_trace.specs.Line.{after_prefix, form, gap_form, address_form, tail_form}
use Rattle.din_trace.specs.Line.{ADDRESS_MAX}

-- the form of a line, by its label, the value of the digits and what follows them
abbrev pub value_form : ℕ → Label → ℕ → List ℕ → Form
value_form bound l value rest =
    if nat_lt bound value then Faulty why.Range
    else tail_form (record { label = l; addr = value }) rest

-- the value of an address, from its value so far and the digits that follow
abbrev pub more_digits : ℕ → List ℕ → ℕ
more_digits value digits = fold (λ value digit. 16 * value + digit_value digit) value digits

-- the form of the line, if these bytes follow what was read of it, and it ends after them
abbrev pub form_from : ℕ → LineSoFar → List ℕ → Form
form_from bound so_far.Empty rest = form bound rest
form_from bound so_far.Blanks rest = form bound rest
form_from bound (so_far.Labeled l) rest = gap_form bound l rest
form_from bound (so_far.Gap l) rest = address_form bound l (after_prefix (after is_blank rest))
form_from bound (so_far.Zero l) rest = address_form bound l (after_prefix (48 ∷ rest))
form_from bound (so_far.Prefixed l) rest = address_form bound l rest
form_from bound (so_far.Digits r) rest =
    value_form bound r.label (more_digits r.addr (front is_hex rest)) (after is_hex rest)
form_from bound (so_far.Record r) rest = Din r
form_from bound (so_far.Faulty w) rest = Faulty w

-- one more byte leads from what was read `before` to what is read `now`: whatever follows, the line
-- has the same form
abbrev pub IsNext : LineSoFar → ℕ → LineSoFar → Type 0
IsNext before byte now = (rest : List ℕ) →
    form_from ADDRESS_MAX before (byte ∷ rest) ≡ form_from ADDRESS_MAX now rest

-- the record of a line of this form, if it holds one, or what is wrong with it
abbrev pub form_answer : Form → Result (Option DinRecord) Why
form_answer Blank = Ok None
form_answer (Din r) = Ok (Some r)
form_answer (Faulty w) = Err w

-- 1 if some byte of the line was read, else 0
abbrev pub begun : LineSoFar → ℕ
begun so_far.Empty = 0
begun so_far.Blanks = 1
begun (so_far.Labeled l) = 1
begun (so_far.Gap l) = 1
begun (so_far.Zero l) = 1
begun (so_far.Prefixed l) = 1
begun (so_far.Digits r) = 1
begun (so_far.Record r) = 1
begun (so_far.Faulty w) = 1
