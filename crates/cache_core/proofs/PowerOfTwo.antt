-- A number with exactly one bit set is 2 to the number of its trailing zeros.
use Rattle.std.proofs.Common.{◌≡◌, ℕ, zero, suc, ◌*◌, ◌/◌, ◌%◌, ◌^◌, ◌<◌, refl, subst, arith}
use Rattle.std.proofs.Math.Nat.{pow-suc}
use lib.Count.{ones, ones_step, count_trailing_zeros, under}

half : (k n : ℕ) → n < 2 ^ suc k → n / 2 < 2 ^ k
half k n h = let e : 2 ^ suc k ≡ 2 ^ k * 2 = pow-suc 2 k in omega arith

none_set : (k n : ℕ) → n < 2 ^ k → ones n ≡ 0 → n ≡ 0
none_set zero n h e = omega arith
none_set (suc k) n h e = let s = ones_step n in let r : n / 2 ≡ 0 =
    none_set k (n / 2) (half k n h) (omega arith) in omega arith

go : (k n d : ℕ) → n % 2 ≡ d → n < 2 ^ suc k → ones n ≡ 1
    → (ones (n / 2) ≡ 1 → n / 2 ≡ 2 ^ count_trailing_zeros k (n / 2))
    → n ≡ 2 ^ under d (count_trailing_zeros k (n / 2))
go k n zero z h e again =
    let s = ones_step n in
    let r : n / 2 ≡ 2 ^ count_trailing_zeros k (n / 2) = again (omega arith) in
    let p : 2 ^ suc (count_trailing_zeros k (n / 2)) ≡ 2 ^ count_trailing_zeros k (n / 2) * 2 =
    pow-suc 2 (count_trailing_zeros k (n / 2)) in
    omega arith
go k n (suc d) z h e again =
    let s = ones_step n in
    let r : n / 2 ≡ 0 = none_set k (n / 2) (half k n h) (omega arith) in
    omega arith

-- 0 has no digit set
pub ones_zero : ones 0 ≡ 0
unfolding ones
ones_zero = refl

-- a number with one digit set is 2 to the number of its trailing zeros
pub power_is : (k n : ℕ) → n < 2 ^ k → ones n ≡ 1 → n ≡ 2 ^ count_trailing_zeros k n
unfolding count_trailing_zeros
power_is zero n h e = let s = ones_step n in let z : n ≡ 0 = omega arith in let e' : ones 0 ≡ 1 =
    subst (λ m. ones m ≡ 1) z e in let o = ones_zero in omega arith
power_is (suc k) n h e = go k n (n % 2) refl h e (power_is k (n / 2) (half k n h))
