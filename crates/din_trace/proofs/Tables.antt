-- The table of digits is right.
use Rattle.std.proofs.Common.{◌≡◌, ℕ, zero, suc, ◌<◌, ◌≤◌, Bool, true, false, refl, arith}
use Rattle.std.proofs.Common.{slice_index_or, inl, inr}
use Rattle.std.specs.Prelude.{nat_lt, nat_le, if◌then◌else◌, ◌==◌}
use Rattle.std.specs.Char.{digit_value}
use Rattle.std.proofs.lemmas.Bool.{cases_Bool, cases_eq, eqb-true, lt-ltb, le-ltb, leb-true}
use Rattle.std.proofs.lemmas.Bool.{false≢true}
use Rattle.din_trace.specs.declared.digits.TheConstants.{DIGITS}
use Rattle.din_trace.specs.Line.{is_hex}

-- each smaller number passes the test
abbrev all_below : (ℕ → Bool) → ℕ → Bool
all_below test zero = true
all_below test (suc n) = if test n then all_below test n else false

-- the entry of the table for this byte is right
abbrev is_right : ℕ → Bool
is_right byte =
    if nat_lt
    (slice_index_or DIGITS byte 0) 16 then digit_value byte == slice_index_or DIGITS byte 0 else
    nat_le 16 (digit_value byte)

each_right : all_below is_right 256 ≡ true
each_right = refl

passes : (test : ℕ → Bool) (n : ℕ) → all_below test n ≡ true → (k : ℕ) → k < n → test k ≡ true
passes test zero all k below = absurd (omega arith)
passes test (suc n) all k below =
    elim (cases_Bool (test n)) [
      | inl e ↦ elim (cases_eq k n) [
        | inl same ↦ rw same e
        | inr other ↦ passes test n (rw e at all) k (omega (arith, below, other))
      ]
      | inr e ↦ absurd (false≢true (rw e at all))
    ]

from_table : (byte value : ℕ)
    → (if nat_lt value 16 then digit_value byte == value else nat_le 16 (digit_value byte)) ≡ true
    → (value < 16 → (is_hex byte ≡ true) × (digit_value byte ≡ value))
    × (16 ≤ value → is_hex byte ≡ false)
unfolding is_hex
from_table byte value right = (
  (λ below.
      let is : digit_value byte ≡ value =
      eqb-true (digit_value byte) value (rw (lt-ltb value 16 below) at right) in
      (rw is (lt-ltb value 16 below), is)),
  (λ above. le-ltb (digit_value byte) 16
      (leb-true 16 (digit_value byte) (rw (le-ltb value 16 above) at right))),
)

pub digit_right : (byte : ℕ) → byte < 256
    → (slice_index_or DIGITS byte 0 < 16 → (is_hex byte ≡ true)
    × (digit_value byte ≡ slice_index_or DIGITS byte 0))
    × (16 ≤ slice_index_or DIGITS byte 0 → is_hex byte ≡ false)
digit_right byte below =
    from_table byte (slice_index_or DIGITS byte 0) (passes is_right 256 each_right byte below)
