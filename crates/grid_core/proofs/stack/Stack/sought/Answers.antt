use Rattle.std.proofs.Common.{◌≡◌, ℕ, ◌-◌, ◌+◌, ◌<◌, ◌≤◌, ◌*◌, ◌/◌, ◌%◌, ap, sym, subst, ◌∙◌, arith}
use Rattle.std.specs.Prelude.{bit_and, ◌^◌}
use Rattle.std.proofs.Math.Nat.{div-div-eq-div-mul, mul_comm}
use Rattle.std.proofs.lemmas.Nat.Bits.{and_high_mask}
use Rattle.cache_core.specs.Geometry.{size_of, bsize_of, assoc_of, sets_of}
use Rattle.cache_core.proofs.Masks.{masked}
use Rattle.grid_core.specs.declared.stack.Stack.{Stack}
use Rattle.grid_core.proofs.Strides.{last-byte, stride-high, stride-power}
use Rattle.grid_core.proofs.stack.Stack.sought.Goals as goal

-- the set of a block
set-is : (s : Stack) (b : ℕ) → bit_and b s.last_set ≡ b % sets_of s.geometry
unfolding size_of bsize_of assoc_of
set-is s b =
    let g = s.geometry in
    let numbered = s.numbered in
    let less : s.last_set ≡ sets_of g - 1 = omega arith in
    ap (λ n. bit_and b n) less ∙ masked g.size g.bsize g.assoc g.lawful b

module _ (s : Stack) (addr : ℕ) (fits : addr < 2 ^ 64) where
  abbrev k : ℕ
  k = (stride-power s.geometry).0

  power : s.stride ≡ 2 ^ k
  power = s.apart ∙ (stride-power s.geometry).1

  -- the start of its stride
  start-is : bit_and addr (18446744073709551615 - (s.stride - 1)) ≡ addr / s.stride * s.stride
  start-is =
      let below = (stride-power s.geometry).2 in
      let within : k ≤ 64 = omega arith in
      let is = power in
      let short = s.short in
      let high = stride-high s.geometry in
      let apart = s.apart in
      let mask : 18446744073709551615 - (s.stride - 1) ≡ 2 ^ 64 - 2 ^ k = omega arith in
      ap (λ m. bit_and addr m) mask
      ∙ and_high_mask 64 k within addr fits
      ∙ ap (λ m. addr / m * m) (sym is)

  -- and which one that is
  among-set : (b : ℕ) → b ≡ addr / bsize_of s.geometry → addr / s.stride ≡ b / (s.last_set + 1)
  among-set b is =
      let g = s.geometry in
      ap (λ m. addr / m) (s.apart ∙ mul_comm (sets_of g) (bsize_of g))
      ∙ sym (div-div-eq-div-mul addr (bsize_of g) (sets_of g))
      ∙ ap (λ b. b / sets_of g) (sym is)
      ∙ ap (λ n. b / n) (sym s.numbered)

pub invariant_of-result : goal.invariant_of-result
invariant_of-result c =
    let s = c.args.self.now in
    let fits = c.ranges.addr.fits in
    let start = start-is s c.args.addr fits in
    record {
      home = set-is s c.args.block ∙ ap (λ n. c.args.block % n) (sym s.numbered);
      at = start ∙ ap (λ q. q * s.stride) (among-set s c.args.addr fits c.args.block c.requires);
      many = omega arith;
      some = let short = s.short in let apart = s.apart in omega arith;
      inside = subst (λ n. n + s.stride ≤ 2 ^ 64) (sym start)
          (last-byte s.stride (stride-power s.geometry).0 c.args.addr (power s c.args.addr fits)
          (stride-power s.geometry).2 fits);
    }

pub returns-clause-set : goal.returns-clause-set
returns-clause-set c = set-is c.args.self.now c.args.block
