-- The forms of a line of a din trace. A line is its bytes, without the LF.
use Rattle.std.specs.Prelude.{◌≡◌, ℕ, ◌+◌, ◌-◌, ◌*◌, ◌^◌, ◌<◌, ◌≤◌, Bool, true, false, ◌||◌, ◌&&◌}
use Rattle.std.specs.Prelude.{◌==◌, nat_le, nat_lt, if◌then◌else◌, List, [], ◌∷◌, ◌++◌, length}
use Rattle.std.specs.Prelude.{take, drop, fold}
use Rattle.std.specs.Char.{digit_value}
use Rattle.std.specs.List.{AllByRecursion}
use Rattle.din_trace.specs.declared.record.Label.{Label}
use Rattle.din_trace.specs.declared.record.Label.TheVariants as label
use Rattle.din_trace.specs.declared.record.DinRecord.{DinRecord}
use Rattle.din_trace.specs.declared.fault.Why.{Why}
use Rattle.din_trace.specs.declared.fault.Why.TheVariants as why

-- the greatest address
abbrev pub ADDRESS_MAX : ℕ
ADDRESS_MAX = 2 ^ 64 - 1

-- Bytes.

-- a space, a tab or a CR
unfoldable pub is_blank : ℕ → Bool
is_blank byte = byte == 32 || byte == 9 || byte == 13

-- a digit 0 to 4
unfoldable pub is_label : ℕ → Bool
is_label byte = nat_le 48 byte && nat_le byte 52

-- the label that a digit 0 to 4 writes
unfoldable pub label_of : ℕ → Label
label_of digit =
    if digit == 48 then label.Read else (
    if digit == 49 then label.Write else (
    if digit == 50 then label.Instr else (
    if digit == 51 then label.Misc else label.Flush)))

-- a hexadecimal digit, of either case
unfoldable pub is_hex : ℕ → Bool
is_hex byte = nat_lt (digit_value byte) 16

-- Runs of bytes.

-- the number that hexadecimal digits write
abbrev pub hex_value : List ℕ → ℕ
hex_value digits = fold (λ value digit. 16 * value + digit_value digit) 0 digits

-- the text begins with `0x` or `0X`
abbrev pub has_prefix : List ℕ → Bool
has_prefix [] = false
has_prefix (a ∷ []) = false
has_prefix (a ∷ b ∷ rest) = a == 48 && (b == 120 || b == 88)

-- each byte of the text passes the test
abbrev pub Each : (ℕ → Bool) → List ℕ → Type 0
Each test text = AllByRecursion (λ byte. test byte ≡ true) text

-- the text does not begin with a byte that passes the test
abbrev pub StopsAt : (ℕ → Bool) → List ℕ → Type 0
StopsAt test [] = Unit {0}
StopsAt test (byte ∷ rest) = test byte ≡ false

-- nothing, or a blank and anything
abbrev pub IsComment : List ℕ → Type 0
IsComment [] = Unit {0}
IsComment (byte ∷ rest) = is_blank byte ≡ true

-- Parts of a line.

-- the line is leading blanks, this byte, and the rest: `B* byte rest`
pub record Begins (line : List ℕ) (byte : ℕ) (rest : List ℕ) : Type 0 where
  pub lead : List ℕ
  pub blanks : Each is_blank lead
  pub whole : line ≡ lead ++ byte ∷ rest

-- the line is leading blanks, a label, a gap, an optional prefix, digits and a rest, each part as
-- long as it can be: `B* label B+ P H rest`
pub record HasParts (line : List ℕ) (digit : ℕ) (digits rest : List ℕ) : Type 0 where
  pub gap : List ℕ
  pub prefix : List ℕ
  pub begins : Begins line digit (gap ++ (prefix ++ (digits ++ rest)))
  pub labeled : is_label digit ≡ true
  -- the gap is all the blanks after the label, at least one
  pub blanks : Each is_blank gap
  pub some : 0 < length gap
  pub all_blanks : StopsAt is_blank (prefix ++ (digits ++ rest))
  -- the prefix is `0x` or `0X` if the text of the address begins so, and otherwise empty
  pub prefixed : prefix ≡ (
      if has_prefix (prefix ++ (digits ++ rest)) then take 2 (prefix ++ (digits ++ rest)) else [])
  -- the digits are all the hexadecimal digits that follow
  pub hex : Each is_hex digits
  pub all_hex : StopsAt is_hex rest

-- Forms.

-- the seven forms of a line: blanks alone, a record, and five faults
pub data Form : Type 0 where
  Blank : Form
  Din : DinRecord → Form
  Faulty : Why → Form

-- the line has this form, if the greatest address is the bound
abbrev pub HasForm : ℕ → List ℕ → Form → Type 0
-- blanks alone
HasForm bound line Blank = Each is_blank line
-- digits of a value within the bound, then nothing, or a blank and anything
HasForm bound line (Din r) = (digit : ℕ) × (digits rest : List ℕ)
    × HasParts line digit digits rest × (0 < length digits) × (hex_value digits ≤ bound)
    × IsComment rest × (r ≡ record { label = label_of digit; addr = hex_value digits })
-- blanks, if any, and then a byte that is neither a blank nor a digit 0 to 4
HasForm bound line (Faulty why.Label) = (byte : ℕ) × (rest : List ℕ)
    × Begins line byte rest × (is_blank byte ≡ false) × (is_label byte ≡ false)
-- blanks, if any, a label, and then nothing, or a byte that is no blank
HasForm bound line (Faulty why.Gap) = (digit : ℕ) × (rest : List ℕ)
    × Begins line digit rest × (is_label digit ≡ true) × StopsAt is_blank rest
-- a label and a gap, and then no hexadecimal digit
HasForm bound line (Faulty why.Address) = (digit : ℕ) × (rest : List ℕ)
    × HasParts line digit [] rest
-- digits of a value above the bound, whatever follows
HasForm bound line (Faulty why.Range) = (digit : ℕ) × (digits rest : List ℕ)
    × HasParts line digit digits rest × (bound < hex_value digits)
-- digits of a value within the bound, then a byte that is no blank
HasForm bound line (Faulty why.Tail) = (digit : ℕ) × (digits rest : List ℕ)
    × HasParts line digit digits rest × (0 < length digits) × (hex_value digits ≤ bound)
    × (byte : ℕ) × (more : List ℕ) × (rest ≡ byte ∷ more) × (is_blank byte ≡ false)

-- The form of a line, found from left to right. A law says that it is the only one the line has.

-- the bytes at the start that pass the test, up to the first that does not
abbrev pub front : (ℕ → Bool) → List ℕ → List ℕ
front test [] = []
front test (byte ∷ rest) = if test byte then byte ∷ front test rest else []

-- the bytes from the first one on that does not pass the test
abbrev pub after : (ℕ → Bool) → List ℕ → List ℕ
after test [] = []
after test (byte ∷ rest) = if test byte then after test rest else byte ∷ rest

-- the text without `0x` or `0X` at its start
abbrev pub after_prefix : List ℕ → List ℕ
after_prefix text = if has_prefix text then drop 2 text else text

-- the form of a line that begins with this record, by what follows the digits
abbrev pub tail_form : DinRecord → List ℕ → Form
tail_form r [] = Din r
tail_form r (byte ∷ rest) = if is_blank byte then Din r else Faulty why.Tail

-- the form of a line, by its label, the digits of the address and what follows them
abbrev pub digits_form : ℕ → Label → List ℕ → List ℕ → Form
digits_form bound l [] rest = Faulty why.Address
digits_form bound l (digit ∷ digits) rest =
    if nat_lt bound (hex_value (digit ∷ digits)) then Faulty why.Range
    else tail_form (record { label = l; addr = hex_value (digit ∷ digits) }) rest

-- the form of a line, by its label and what follows the gap and the prefix
abbrev pub address_form : ℕ → Label → List ℕ → Form
address_form bound l text = digits_form bound l (front is_hex text) (after is_hex text)

-- the form of a line, by its label and what follows the label
abbrev pub gap_form : ℕ → Label → List ℕ → Form
gap_form bound l [] = Faulty why.Gap
gap_form bound l (byte ∷ rest) =
    if is_blank byte then address_form bound l (after_prefix (after is_blank rest))
    else Faulty why.Gap

-- the form of a line, by what follows the leading blanks
abbrev pub label_form : ℕ → List ℕ → Form
label_form bound [] = Blank
label_form bound (digit ∷ rest) =
    if is_label digit then gap_form bound (label_of digit) rest else Faulty why.Label

-- the form of a line, if the greatest address is the bound
unfoldable pub form : ℕ → List ℕ → Form
form bound line = label_form bound (after is_blank line)
