-- A geometry of the same size with other ways is lawful.
use Rattle.std.proofs.Common.{◌≡◌, ℕ, zero, suc, ◌+◌, ◌-◌, ◌*◌, ◌/◌, ◌%◌, ◌^◌, ◌≤◌, Bool}
use Rattle.std.proofs.Common.{true, false, cond, not, ◌||◌, ltb, Option, Some, None}
use Rattle.std.proofs.Common.{Result, Ok, Err, refl, sym, ap, subst, ◌∙◌, arith}
use Rattle.std.specs.Prelude.{IfErr}
use Rattle.std.specs.Result.{IsOk}
use Rattle.std.specs.Int.{is_power_of_two}
use Rattle.std.proofs.lemmas.Bool.{eq-eqb, le-ltb}
use Rattle.std.proofs.lemmas.Option.{none-some}
use Rattle.std.proofs.Math.Nat.{mul_comm, mul_assoc, mul-div_cancel}
use Rattle.std.proofs.Math.Nat.{pow-suc}
use lib.Count.{ones, ones_step}
use Rattle.cache_core.specs.declared.geometry.Geometry.{Geometry}
use Rattle.cache_core.specs.Lawful.{refusal_of}
use Rattle.cache_core.specs.Geometry.{size_of, bsize_of, assoc_of, sets_of, blocks_of, IsMadeOf}
use Rattle.cache_core.proofs.PowerOfTwo.{ones_zero}
use Rattle.cache_core.proofs.Lawful.{lawful_is, passed, sane_of}
use Rattle.cache_core.proofs.Masks.{zeros, sets_is}
use Rattle.grid_core.specs.Wholes.{IsWholeOf}
use Rattle.grid_core.proofs.Geometries.{whole, sets-blocks}

-- a power of two has one bit set
ones-power : (k : ℕ) → ones (2 ^ k) ≡ 1
ones-power zero =
    let s : ones 1 ≡ 1 + ones 0 = ones_step 1 in
    let z = ones_zero in
    omega arith
ones-power (suc k) =
    let p : 2 ^ suc k ≡ 2 ^ k * 2 = pow-suc 2 k in
    let half : 2 ^ suc k / 2 ≡ 2 ^ k = omega arith in
    let even : 2 ^ suc k % 2 ≡ 0 = omega arith in
    let s = ones_step (2 ^ suc k) in
    let again : ones (2 ^ suc k / 2) ≡ 1 = ap ones half ∙ ones-power k in
    omega arith

pub power-is-power : (k : ℕ) → is_power_of_two (2 ^ k) ≡ true
power-is-power k = eq-eqb (ones (2 ^ k)) 1 (ones-power k)

pub one-is-power : is_power_of_two 1 ≡ true
one-is-power = power-is-power 0

passes : {F : Type 0} (t : Bool) (fault : F) (rest : Option F) → t ≡ false → rest ≡ None
    → cond t (Some fault) rest ≡ None
passes true fault rest e h = cc
passes false fault rest e h = h

-- the size and the block size of a lawful geometry are so with each power of two that fits
pub other-ways : (size bsize assoc ways : ℕ) → refusal_of size bsize assoc ≡ None
    → is_power_of_two ways ≡ true → ways ≤ size / bsize → refusal_of size bsize ways ≡ None
unfolding refusal_of
other-ways size bsize assoc ways h power fits =
    let a = passed (not (is_power_of_two size)) _ _ h in
    let b = passed (ltb size 4 || ltb (2 ^ 24) size) _ _ a.1 in
    let c = passed (not (is_power_of_two bsize)) _ _ b.1 in
    let d = passed (ltb bsize 4 || ltb 4096 bsize || ltb size bsize) _ _ c.1 in
    passes _ _ _ a.0 (passes _ _ _ b.0 (passes _ _ _ c.0 (passes _ _ _ d.0
    (passes _ _ _ (ap not power) (passes _ _ _ (le-ltb (size / bsize) ways fits) refl)))))

-- what has no refusal is not refused
pub not-refused : {T E : Type 0} {o : Option E} (r : Result T E) → o ≡ None
    → IfErr r (λ e. o ≡ Some e) → IsOk r
not-refused (Ok v) none h = refl
not-refused (Err e) none h = absurd (none-some e (sym none ∙ h))

one-times : (n : ℕ) → n ≡ 1 * n
one-times n = omega arith

module _ (g : Geometry) where
  pub ways-lawful : (ways : ℕ) → is_power_of_two ways ≡ true → ways ≤ blocks_of g
      → refusal_of (size_of g) (bsize_of g) ways ≡ None
  unfolding size_of bsize_of assoc_of
  ways-lawful ways power fits = other-ways g.size g.bsize g.assoc ways g.lawful power fits

  -- the blocks of a geometry are its whole size
  pub bytes-are : blocks_of g * bsize_of g ≡ size_of g
  bytes-are = ap (λ n. n * bsize_of g) (sym (sets-blocks g))
      ∙ mul_assoc (sets_of g) (assoc_of g) (bsize_of g)
      ∙ ap (λ n. sets_of g * n) (mul_comm (assoc_of g) (bsize_of g)) ∙ sym (whole g)

  pub one-fits : 1 ≤ blocks_of g
  one-fits = let pos = (sane_of g).blocks_pos in omega arith

  one-lawful : refusal_of (size_of g) (bsize_of g) 1 ≡ None
  one-lawful = ways-lawful 1 one-is-power one-fits

  -- their number is a power of two
  pub blocks-power : is_power_of_two (blocks_of g) ≡ true
  blocks-power =
      let is = sets_is (size_of g) (bsize_of g) 1 one-lawful in
      let one : bsize_of g * 1 ≡ bsize_of g = omega arith in
      let same : blocks_of g ≡ size_of g / (bsize_of g * 1) =
      ap (λ n. size_of g / n) (sym one) in
      subst (λ n. is_power_of_two n ≡ true) (sym (same ∙ is))
      (power-is-power (zeros (size_of g) - (zeros (bsize_of g) + zeros 1)))

  pub size-high : size_of g ≤ 2 ^ 24
  unfolding size_of
  size-high = (lawful_is g.size g.bsize g.assoc g.lawful).size_high

  -- a geometry of the same size has as many blocks
  pub made-blocks : (w : Geometry) (ways : ℕ) → IsMadeOf w (size_of g) (bsize_of g) ways
      → blocks_of w ≡ blocks_of g
  made-blocks w ways made = ap (λ n. n / bsize_of w) made.has_size
      ∙ ap (λ n. size_of g / n) made.has_bsize

  -- with as many ways as blocks it has one set
  pub made-whole : (w : Geometry) → IsMadeOf w (size_of g) (bsize_of g) (blocks_of g)
      → IsWholeOf w g
  made-whole w made =
      let blocks = made-blocks w (blocks_of g) made in
      let all : sets_of w * blocks_of g ≡ blocks_of g =
      ap (λ n. sets_of w * n) (sym made.has_assoc) ∙ sets-blocks w ∙ blocks in
      let pos = (sane_of g).blocks_pos in
      record {
        one = sym (mul-div_cancel (sets_of w) pos) ∙ ap (λ n. n / blocks_of g) all
            ∙ ap (λ n. n / blocks_of g) (one-times (blocks_of g)) ∙ mul-div_cancel 1 pos;
        same_bsize = made.has_bsize;
        same_blocks = blocks;
      }
