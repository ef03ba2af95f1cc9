-- The numbers of a geometry fit together.
use Rattle.std.proofs.Common.{◌≡◌, ◌+◌, ◌-◌, ◌*◌, ◌/◌, ◌^◌, ◌<◌, ◌≤◌, sym, ap, ◌∙◌, inl, inr}
use Rattle.std.proofs.Common.{ℕ, Bool, arith}
use Rattle.std.proofs.Math.Nat.{mul_comm, mul_assoc, mul-div_cancel}
use Rattle.std.proofs.Math.Pow.{pow-add, pow-lt}
use Rattle.std.proofs.lemmas.Bool.{cases_lt}
use Rattle.cache_core.specs.declared.geometry.Geometry.{Geometry}
use Rattle.cache_core.specs.History.{Rules}
use Rattle.cache_core.specs.Geometry.{size_of, bsize_of, assoc_of, sets_of, blocks_of}
use Rattle.cache_core.proofs.Lawful.{lawful_is, power_of_zeros, set_fits, sane_of}
use Rattle.cache_core.proofs.Masks.{zeros, set_is, sets_is}

-- the rules of these parts
unfoldable pub make : ℕ → ℕ → ℕ → ℕ → Bool → Bool → Bool → Rules
make b s a n f w l = record {
  bsize = b;
  sets = s;
  assoc = a;
  blocks = n;
  fifo = f;
  wback = w;
  walloc = l;
}

module _ (g : Geometry) where
  -- all sets together are the whole cache
  pub whole : size_of g ≡ sets_of g * (bsize_of g * assoc_of g)
  unfolding size_of bsize_of assoc_of
  whole =
      let law = lawful_is g.size g.bsize g.assoc g.lawful in
      let high = law.size_high in
      let k = zeros g.bsize + zeros g.assoc in
      let size : g.size ≡ 2 ^ zeros g.size = power_of_zeros g.size (omega arith) law.size_power in
      let set : g.bsize * g.assoc ≡ 2 ^ k = set_is g.size g.bsize g.assoc g.lawful in
      let fits = set_fits g.size g.bsize g.assoc law in
      let within : k ≤ zeros g.size = elim (cases_lt (zeros g.size) k) [
        | inr le ↦ le
        | inl lt ↦ let more : 2 ^ zeros g.size < 2 ^ k = pow-lt lt in absurd (omega arith)
      ] in
      let sum : zeros g.size ≡ (zeros g.size - k) + k = omega arith in
      size ∙ ap (λ e. 2 ^ e) sum ∙ pow-add 2 (zeros g.size - k) k
      ∙ ap (λ n. n * 2 ^ k) (sym (sets_is g.size g.bsize g.assoc g.lawful))
      ∙ ap (λ n. g.size / (g.bsize * g.assoc) * n) (sym set)

  -- the sets of a cache together hold its blocks
  pub sets-blocks : sets_of g * assoc_of g ≡ blocks_of g
  sets-blocks =
      let low = (sane_of g).block_low in
      let pos : 0 < bsize_of g = omega arith in
      sym (ap (λ n. n / bsize_of g) (whole ∙ ap (λ n. sets_of g * n) (mul_comm (bsize_of g)
      (assoc_of g)) ∙ sym (mul_assoc (sets_of g) (assoc_of g) (bsize_of g)))
      ∙ mul-div_cancel (sets_of g * assoc_of g) pos)

  -- so the number of ways is the blocks of each set
  pub ways-are : blocks_of g / sets_of g ≡ assoc_of g
  ways-are = ap (λ n. n / sets_of g) (sym sets-blocks ∙ mul_comm (sets_of g) (assoc_of g))
      ∙ mul-div_cancel (assoc_of g) (sane_of g).sets_pos
