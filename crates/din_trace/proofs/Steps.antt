-- The form of a line after one more byte.
use Rattle.std.proofs.Common.{◌≡◌, ℕ, ◌+◌, ◌*◌, ◌<◌, ◌≤◌, true, false, cond, List, [], ◌∷◌, refl}
use Rattle.std.proofs.Common.{arith}
use Rattle.std.specs.Prelude.{nat_lt}
use Rattle.std.specs.Char.{digit_value}
use Rattle.std.proofs.lemmas.Bool.{lt-ltb, ne_eqb}
use Rattle.din_trace.specs.declared.record.Label.{Label}
use Rattle.din_trace.specs.declared.fault.Why.TheVariants as why
use Rattle.din_trace.specs.declared.line.LineSoFar.TheVariants as so_far
use Rattle.din_trace.specs.Line.{is_blank, is_label, label_of, is_hex, Faulty, front, after, form}
use Rattle.din_trace.specs.Line.{gap_form}
use Rattle.din_trace.specs.LineSoFar.{form_from, value_form, more_digits}
use Rattle.din_trace.proofs.Forms.{label_not_blank}

module _ (bound byte : ℕ) (tail : List ℕ) where
  pub form-blank : is_blank byte ≡ true → form bound (byte ∷ tail) ≡ form bound tail
  unfolding form
  form-blank h = rw h refl

  pub form-label : is_label byte ≡ true
      → form bound (byte ∷ tail) ≡ gap_form bound (label_of byte) tail
  unfolding form
  form-label h = rw (label_not_blank byte h, h) refl

  pub form-other : is_blank byte ≡ false → is_label byte ≡ false
      → form bound (byte ∷ tail) ≡ Faulty why.Label
  unfolding form
  form-other h k = rw (h, k) refl

-- a `0` that no `x` or `X` follows is a digit
pub zero_is_digit : (bound : ℕ) (l : Label) (byte : ℕ) (tail : List ℕ) → (byte ≡ 120 → ⊥)
    → (byte ≡ 88 → ⊥)
    → form_from bound (so_far.Zero l) (byte ∷ tail)
    ≡ form_from bound (so_far.Digits (record { label = l; addr = 0 })) (byte ∷ tail)
unfolding is_hex
zero_is_digit bound l byte tail h k = rw (ne_eqb byte 120 h, ne_eqb byte 88 k) refl

-- more digits do not make a value smaller
pub more_digits-le : (value : ℕ) (digits : List ℕ) → value ≤ more_digits value digits
more_digits-le value [] = omega arith
more_digits-le value (digit ∷ digits) =
    omega (arith, more_digits-le (16 * value + digit_value digit) digits)

pub past_range : (bound : ℕ) (l : Label) (value byte : ℕ) (tail : List ℕ) → is_hex byte ≡ true
    → bound < 16 * value
    → value_form bound l (more_digits value (cond (is_hex byte) (byte ∷ front is_hex tail) []))
    (cond (is_hex byte) (after is_hex tail) (byte ∷ tail)) ≡ Faulty why.Range
past_range bound l value byte tail h past =
    let less : 16 * value + digit_value byte ≤ more_digits (16 * value + digit_value byte)
    (front is_hex tail) = more_digits-le (16 * value + digit_value byte) (front is_hex tail) in
    let above : nat_lt bound (more_digits (16 * value + digit_value byte) (front is_hex tail))
    ≡ true = lt-ltb _ _ (omega (arith, less)) in
    rw (h, above) refl
