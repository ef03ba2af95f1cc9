-- A number that is read digit by digit.
use Rattle.std.proofs.Common.{◌≡◌, ℕ, ◌+◌, ◌-◌, ◌*◌, ◌<◌, ◌≤◌, ◌^◌, Bool, true, false, List, length}
use Rattle.std.proofs.Common.{take, get_or, arith, refl}
use Rattle.std.specs.List.{list_all}
use Rattle.std.specs.Char.{is_ascii_digit, digit_value}
use Rattle.std.specs.Str.Parse.{digits_value}
use Rattle.std.proofs.Math.Nat.{pow-le-pow_right}
use Rattle.std.proofs.lemmas.Grind.{pow_more}
use Rattle.std.proofs.lemmas.List.Folds.{list_all_at}
use Rattle.std.proofs.lemmas.Bool.Decides.{nat_tests}
use Rattle.std.proofs.lemmas.Int.Digits.{digits_value_more}

pub digit_range : (c : ℕ) → is_ascii_digit c ≡ true → (48 ≤ c) × (c ≤ 57)
digit_range c h = (grind (arith, nat_tests), grind (arith, nat_tests))

pub digit_at : (ds : List ℕ) (i : ℕ) → list_all is_ascii_digit ds ≡ true → i < length ds
    → (48 ≤ get_or ds i 0) × (get_or ds i 0 ≤ 57)
digit_at ds i h lt = digit_range (get_or ds i 0) (go (is_ascii_digit (get_or ds i 0)) refl)
  where
    go : (b : Bool) → is_ascii_digit (get_or ds i 0) ≡ b → is_ascii_digit (get_or ds i 0) ≡ true
    go true e = e
    go false e = let bad = list_all_at is_ascii_digit ds i 0 lt e in cc

pub digit_value_is : (c : ℕ) → 48 ≤ c → c ≤ 57 → digit_value c ≡ c - 48
digit_value_is c lo hi = grind arith

pub below_room : (i v : ℕ) → i < 12 → v < 10 ^ i → v < 10 ^ 11
below_room i v h k =
    let more = pow-le-pow_right {n = 10} (omega arith) {i = i} {j = 11} (omega arith) in
    omega arith

pub below_end : (i v : ℕ) → i ≤ 12 → v < 10 ^ i → v < 10 ^ 12
below_end i v h k =
    let more = pow-le-pow_right {n = 10} (omega arith) {i = i} {j = 12} (omega arith) in
    omega arith

-- the value after one more digit
pub one_more : (ds : List ℕ) (i v x : ℕ) → list_all is_ascii_digit ds ≡ true → i < length ds
    → v ≡ digits_value 10 (take i ds) → v < 10 ^ i
    → x ≡ get_or ds i 0 - 48 → (v * 10 + x ≡ digits_value 10 (take (i + 1) ds))
    × (v * 10 + x < 10 ^ (i + 1))
one_more ds i v x all lt is bound e =
    let at = digit_at ds i all lt in
    let d = digit_value_is (get_or ds i 0) at.0 at.1 in
    let more = pow_more 10 i in
    (rw (digits_value_more 10 ds i lt, d, ← is, ← e) refl, rw more (omega arith))
