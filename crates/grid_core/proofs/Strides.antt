-- How many bytes lie between two blocks of one set that follow one another.
use Rattle.std.proofs.Common.{◌≡◌, ℕ, ◌+◌, ◌-◌, ◌*◌, ◌/◌, ◌%◌, ◌<◌, ◌≤◌}
use Rattle.std.proofs.Common.{sym, ap, subst, ◌∙◌, inl, inr, arith}
use Rattle.std.specs.Prelude.{bit_and, ◌^◌}
use Rattle.std.proofs.lemmas.Bool.{cases_lt}
use Rattle.std.proofs.lemmas.Nat.{and_mask}
use Rattle.std.proofs.Math.Pow.{pow_mono, pow_pos, pow-add}
use Rattle.cache_core.specs.declared.geometry.Geometry.{Geometry}
use Rattle.cache_core.specs.Geometry.{assoc_of, bsize_of, sets_of, size_of}
use Rattle.cache_core.proofs.Lawful.{lawful_is, power_of_zeros, sane_of}
use Rattle.cache_core.proofs.Masks.{sets_is, zeros}
use Rattle.std.proofs.Math.Nat.{div-lt_iff_lt-mul}
use Rattle.std.proofs.Math.Nat.{le-mul_of_pos_right, mul_comm, mul-le-mul_right}
use Rattle.grid_core.specs.Slot.{HasWords, stride_of}

-- to mask an address by a power of two less one is to take the remainder by it
pub above-masked : (n k w : ℕ) → n ≡ 2 ^ k → bit_and w (n - 1) ≡ w % n
above-masked n k w is =
    ap (λ m. bit_and w (m - 1)) is ∙ and_mask w k ∙ ap (λ m. w % m) (sym is)

-- if an address is there, so is the last byte of its stride
pub last-byte : (n k a : ℕ) → n ≡ 2 ^ k → k < 64 → a < 2 ^ 64 → a / n * n + n ≤ 2 ^ 64
last-byte n k a is small fits =
    let sum : 64 ≡ (64 - k) + k = omega arith in
    let whole : 2 ^ 64 ≡ 2 ^ (64 - k) * n = ap (λ e. 2 ^ e) sum ∙ pow-add 2 (64 - k) k
    ∙ ap (λ m. 2 ^ (64 - k) * m) (sym is) in
    let some : 0 < n = subst (λ m. 0 < m) (sym is) (pow_pos k) in
    let below : a / n < 2 ^ (64 - k) =
    (div-lt_iff_lt-mul some).1 (subst (λ m. a < m) whole fits) in
    let le : a / n + 1 ≤ 2 ^ (64 - k) = omega (arith, below) in
    let up : (a / n + 1) * n ≤ 2 ^ (64 - k) * n = mul-le-mul_right n le in
    let all = whole in
    omega arith

-- a stride has at most 2 ^ 36 bytes
pub stride-high : (g : Geometry) → stride_of g ≤ 2 ^ 36
stride-high g =
    let sane = sane_of g in
    let fits = sane.ways_fit in
    let wide : sets_of g ≤ sets_of g * assoc_of g =
    le-mul_of_pos_right (sets_of g) sane.assoc_pos in
    let few : sets_of g ≤ 2 ^ 24 = omega arith in
    let up : sets_of g * bsize_of g ≤ 2 ^ 24 * bsize_of g = mul-le-mul_right (bsize_of g) few in
    let high = sane.block_high in
    omega arith

-- where a set has one way, words can keep the slots
pub direct-words : (g : Geometry) → assoc_of g ≡ 1 → HasWords g
direct-words g one =
    let sane = sane_of g in
    let low = sane.block_low in
    let wide : bsize_of g ≤ bsize_of g * sets_of g =
    le-mul_of_pos_right (bsize_of g) sane.sets_pos in
    let turned = mul_comm (bsize_of g) (sets_of g) in
    omega arith

power-of : (g : Geometry) → (k : ℕ) × (stride_of g ≡ 2 ^ k)
unfolding size_of bsize_of assoc_of
power-of g =
    let law = lawful_is g.size g.bsize g.assoc g.lawful in
    let high = law.block_high in
    let a = zeros g.size - (zeros g.bsize + zeros g.assoc) in
    let b = zeros g.bsize in (
      a + b,
      ap (λ n. n * g.bsize) (sets_is g.size g.bsize g.assoc g.lawful)
          ∙ ap (λ n. 2 ^ a * n) (power_of_zeros g.bsize (omega arith) law.block_power)
          ∙ sym (pow-add 2 a b),
    )

-- and is a power of two
pub stride-power : (g : Geometry) → (k : ℕ) × (stride_of g ≡ 2 ^ k) × (k < 64)
stride-power g = let is = power-of g in (
  is.0,
  is.1,
  elim (cases_lt is.0 64) [
    | inl lt ↦ lt
    | inr le ↦
        let more : 2 ^ 64 ≤ 2 ^ is.0 = pow_mono le in
        let high = stride-high g in
        let same = is.1 in
        absurd (omega arith)
  ],
)
