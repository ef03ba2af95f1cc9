-- The number of a set, computed by a shift and a mask.
use Rattle.std.proofs.Common.{◌≡◌, ℕ, ◌+◌, ◌*◌, ◌-◌, ◌/◌, ◌%◌, ◌^◌, ◌<◌, ◌≤◌, None, sym, ap, ◌∙◌}
use Rattle.std.proofs.Common.{inl, inr, arith}
use Rattle.std.specs.Prelude.{bit_and}
use Rattle.std.proofs.Math.Nat.{mul_comm, mul-div_cancel}
use Rattle.std.proofs.Math.Pow.{pow_pos, pow-add, pow-lt, pow_mono}
use Rattle.std.proofs.lemmas.Bool.{cases_lt}
use Rattle.std.proofs.lemmas.Nat.{and_mask}
use lib.Count.{count_trailing_zeros}
use Rattle.cache_core.specs.Lawful.{refusal_of}
use Rattle.cache_core.proofs.Lawful.{IsLawful, lawful_is, power_of_zeros, IsSane, sane, set_fits}

abbrev pub zeros : ℕ → ℕ
zeros n = count_trailing_zeros 64 n

module _ (size bsize assoc : ℕ) (ok : refusal_of size bsize assoc ≡ None) where
  law : IsLawful size bsize assoc
  law = lawful_is size bsize assoc ok

  facts : IsSane size bsize assoc
  facts = sane size bsize assoc ok

  abbrev k : ℕ
  k = zeros bsize + zeros assoc

  assoc_high : assoc ≤ 2 ^ 24
  assoc_high = let a = law.assoc_fits in let b = facts.blocks_high in omega arith

  -- the size of a set in bytes is a power of two
  pub set_is : bsize * assoc ≡ 2 ^ k
  set_is =
      let high = law.block_high in let low = assoc_high in
      ap (λ n. n * assoc) (power_of_zeros bsize (omega arith) law.block_power)
      ∙ ap (λ n. 2 ^ zeros bsize * n) (power_of_zeros assoc (omega arith) law.assoc_power)
      ∙ sym (pow-add 2 (zeros bsize) (zeros assoc))

  size_is : size ≡ 2 ^ zeros size
  size_is = let high = law.size_high in power_of_zeros size (omega arith) law.size_power

  within : k ≤ zeros size
  within = elim (cases_lt (zeros size) k) [
    | inr le ↦ le
    | inl lt ↦ let more : 2 ^ zeros size < 2 ^ k = pow-lt lt in let fits =
        set_fits size bsize assoc law in let a = set_is in let b = size_is in absurd (omega arith)
  ]

  -- their exponent is below 64
  pub shift_fits : k < 64
  shift_fits = elim (cases_lt k 64) [
    | inl lt ↦ lt
    | inr le ↦ let more : 2 ^ 64 ≤ 2 ^ k = pow_mono le in let a = set_is in let b =
        facts.set_high in absurd (omega arith)
  ]

  pub sets_is : size / (bsize * assoc) ≡ 2 ^ (zeros size - k)
  sets_is =
      let sum : zeros size ≡ (zeros size - k) + k = let w = within in omega arith in
      ap (λ n. n / (bsize * assoc)) (size_is ∙ ap (λ e. 2 ^ e) sum ∙ pow-add 2 (zeros size - k) k)
      ∙ ap (λ n. 2 ^ (zeros size - k) * 2 ^ k / n) set_is
      ∙ mul-div_cancel (2 ^ (zeros size - k)) (pow_pos k)

  -- to mask a block by the number of sets less one is to take its remainder by that number
  pub masked : (b : ℕ) → bit_and b (size / (bsize * assoc) - 1) ≡ b % (size / (bsize * assoc))
  masked b = ap (λ n. bit_and b (n - 1)) sets_is ∙ and_mask b (zeros size - k)
      ∙ ap (λ n. b % n) (sym sets_is)

  -- the size of all sets together is the size of the cache
  whole : size ≡ size / (bsize * assoc) * (bsize * assoc)
  whole =
      let sum : zeros size ≡ (zeros size - k) + k = let w = within in omega arith in
      size_is ∙ ap (λ e. 2 ^ e) sum ∙ pow-add 2 (zeros size - k) k
      ∙ ap (λ n. n * 2 ^ k) (sym sets_is) ∙ ap (λ n. size / (bsize * assoc) * n) (sym set_is)

  -- where there is one set, it has as many ways as the cache has blocks
  pub one_set : size / (bsize * assoc) ≡ 1 → assoc ≡ size / bsize
  one_set e =
      let all : size ≡ 1 * (bsize * assoc) = whole ∙ ap (λ n. n * (bsize * assoc)) e in
      let low = law.block_low in
      let pos : 0 < bsize = omega arith in
      let turned : 1 * (bsize * assoc) ≡ assoc * bsize =
      let c = mul_comm bsize assoc in omega arith in
      sym (mul-div_cancel assoc pos) ∙ ap (λ n. n / bsize) (sym (all ∙ turned))
