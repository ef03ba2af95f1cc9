-- What follows if a geometry is accepted.
use Rattle.std.proofs.Common.{◌≡◌, ℕ, zero, suc, ◌*◌, ◌/◌, ◌^◌, ◌<◌, ◌≤◌, Bool, true, false, cond}
use Rattle.std.proofs.Common.{not, ◌||◌, ltb, Option, Some, None, refl, subst, arith}
use Rattle.std.proofs.lemmas.Bool.{not-false, eqb-true, ltb-false, or_parts}
use Rattle.std.specs.Int.{is_power_of_two, w64}
use Rattle.std.proofs.lemmas.Nat.Bits.{bit_at-trailing_zeros}
use Rattle.std.proofs.Math.Nat.{mul_comm, mul-pos, le-div_iff_mul-le, div-mul-le_self, div-le_self}
use Rattle.std.proofs.Math.Nat.{le-mul_of_pos_right, mul-le-mul_left}
use Rattle.std.proofs.lemmas.Nat.{le-div}
use lib.Count.{ones, count_trailing_zeros}
use Rattle.cache_core.specs.declared.geometry.Geometry.{Geometry}
use Rattle.cache_core.specs.Lawful.{refusal_of}
use Rattle.cache_core.specs.Geometry.{size_of, bsize_of, assoc_of}
use Rattle.cache_core.proofs.PowerOfTwo.{power_is, ones_zero}

-- where nothing is refused, the first test did not refuse, nor did the others
pub passed : {F : Type 0} (t : Bool) (fault : F) (rest : Option F) → cond t (Some fault) rest ≡ None
    → (t ≡ false) × (rest ≡ None)
passed true fault rest h = cc
passed false fault rest h = (refl, h)

-- the rules of a lawful geometry
pub record IsLawful (size bsize assoc : ℕ) : Type 0 where
  pub size_power : is_power_of_two size ≡ true
  pub size_high : size ≤ 2 ^ 24
  pub block_power : is_power_of_two bsize ≡ true
  pub block_low : 4 ≤ bsize
  pub block_high : bsize ≤ 4096
  pub block_fits : bsize ≤ size
  pub assoc_power : is_power_of_two assoc ≡ true
  pub assoc_fits : assoc ≤ size / bsize

-- a geometry that is not refused keeps them
pub lawful_is : (size bsize assoc : ℕ) → refusal_of size bsize assoc ≡ None
    → IsLawful size bsize assoc
unfolding refusal_of
lawful_is size bsize assoc h =
    let a = passed (not (is_power_of_two size)) _ _ h in
    let b = passed (ltb size 4 || ltb (2 ^ 24) size) _ _ a.1 in
    let c = passed (not (is_power_of_two bsize)) _ _ b.1 in
    let d = passed (ltb bsize 4 || ltb 4096 bsize || ltb size bsize) _ _ c.1 in
    let e = passed (not (is_power_of_two assoc)) _ _ d.1 in
    let f = passed (ltb (size / bsize) assoc) _ _ e.1 in
    let b' = or_parts (ltb size 4) (ltb (2 ^ 24) size) b.0 in
    let d' = or_parts (ltb bsize 4 || ltb 4096 bsize) (ltb size bsize) d.0 in
    let d'' = or_parts (ltb bsize 4) (ltb 4096 bsize) d'.0 in
    record {
      size_power = not-false (is_power_of_two size) a.0;
      size_high = ltb-false (2 ^ 24) size b'.1;
      block_power = not-false (is_power_of_two bsize) c.0;
      block_low = ltb-false bsize 4 d''.0;
      block_high = ltb-false 4096 bsize d''.1;
      block_fits = ltb-false size bsize d'.1;
      assoc_power = not-false (is_power_of_two assoc) e.0;
      assoc_fits = ltb-false (size / bsize) assoc f.0;
    }

-- a power of two below 2 ^ 64 is 2 to the number of its trailing zeros
pub power_of_zeros : (n : ℕ) → n < 2 ^ 64 → is_power_of_two n ≡ true
    → n ≡ 2 ^ count_trailing_zeros 64 n
power_of_zeros n h p = power_is 64 n h (eqb-true (ones n) 1 p)

-- a number of 64 bits that is not 0 has fewer than 64 trailing zeros
pub zeros-lt : (n : ℕ) → 0 < n → n < 2 ^ 64 → count_trailing_zeros 64 n < 64
zeros-lt n p h = (bit_at-trailing_zeros w64 n p h).0

one_set_pos : (n : ℕ) → is_power_of_two n ≡ true → 0 < n
one_set_pos zero h = let e : ones 0 ≡ 1 = eqb-true (ones 0) 1 h in let z = ones_zero in omega arith
one_set_pos (suc n) h = omega arith

module _ (size bsize assoc : ℕ) (law : IsLawful size bsize assoc) where
  pub assoc_pos : 0 < assoc
  assoc_pos = one_set_pos assoc law.assoc_power

  block_pos : 0 < bsize
  block_pos = let low = law.block_low in omega arith

  -- a set is no larger than the cache
  pub set_fits : bsize * assoc ≤ size
  set_fits = subst (λ n. n ≤ size) (mul_comm assoc bsize)
      ((le-div_iff_mul-le block_pos).0 law.assoc_fits)

  pub set_pos : 0 < bsize * assoc
  set_pos = mul-pos block_pos assoc_pos

  pub sets_pos : 0 < size / (bsize * assoc)
  sets_pos = let fits = set_fits in le-div 1 size (bsize * assoc) set_pos (omega arith)

  pub ways_fit : size / (bsize * assoc) * assoc ≤ 2 ^ 24
  ways_fit =
      let whole = div-mul-le_self size (bsize * assoc) in
      let wide : assoc ≤ bsize * assoc =
      subst (λ n. assoc ≤ n) (mul_comm assoc bsize) (le-mul_of_pos_right assoc block_pos) in
      let all = mul-le-mul_left (size / (bsize * assoc)) wide in
      let high = law.size_high in
      omega arith

  pub blocks_pos : 0 < size / bsize
  blocks_pos = let fits = law.block_fits in le-div 1 size bsize block_pos (omega arith)

-- the facts about a geometry that the code uses
pub record IsSane (size bsize assoc : ℕ) : Type 0 where
  pub block_low : 4 ≤ bsize
  pub block_high : bsize ≤ 4096
  pub set_pos : 0 < bsize * assoc
  pub set_high : bsize * assoc ≤ 2 ^ 24
  pub assoc_pos : 0 < assoc
  pub sets_pos : 0 < size / (bsize * assoc)
  pub ways_fit : size / (bsize * assoc) * assoc ≤ 2 ^ 24
  pub blocks_pos : 0 < size / bsize
  pub blocks_high : size / bsize ≤ 2 ^ 24

-- a geometry that is not refused has them
pub sane : (size bsize assoc : ℕ) → refusal_of size bsize assoc ≡ None → IsSane size bsize assoc
sane size bsize assoc h =
    let law = lawful_is size bsize assoc h in
    let fits = set_fits size bsize assoc law in
    let high = law.size_high in
    let part = div-le_self size bsize in
    record {
      block_low = law.block_low;
      block_high = law.block_high;
      set_pos = set_pos size bsize assoc law;
      set_high = omega arith;
      assoc_pos = assoc_pos size bsize assoc law;
      sets_pos = sets_pos size bsize assoc law;
      ways_fit = ways_fit size bsize assoc law;
      blocks_pos = blocks_pos size bsize assoc law;
      blocks_high = omega arith;
    }

-- and so each geometry has them
pub sane_of : (g : Geometry) → IsSane (size_of g) (bsize_of g) (assoc_of g)
unfolding size_of bsize_of assoc_of
sane_of g = sane g.size g.bsize g.assoc g.lawful
