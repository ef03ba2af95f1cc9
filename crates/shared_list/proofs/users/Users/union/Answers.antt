use Rattle.std.proofs.Common.{◌≡◌, ℕ, zero, suc, ◌<◌, ◌||◌, eqb, max, refl, ap, ◌∙◌, arith}
use Rattle.std.specs.Int.{bit_at}
use Rattle.std.proofs.lemmas.Nat.Bits.{bit_at-lt, bit_at_or}
use Rattle.shared_list.proofs.users.Users.union.Goals as goal

-- of two bits, the greater one is set if one of them is
either : (m n : ℕ) → m < 2 → n < 2 → eqb (max m n) 1 ≡ (eqb m 1 || eqb n 1)
either zero zero a b = refl
either zero (suc zero) a b = refl
either (suc zero) zero a b = refl
either (suc zero) (suc zero) a b = refl
either zero (suc (suc n)) a b = absurd (omega arith)
either (suc zero) (suc (suc n)) a b = absurd (omega arith)
either (suc (suc m)) n a b = absurd (omega arith)

pub returns : goal.returns
returns c = λ q.
    let m = c.args.self.bits in
    let n = c.args.others.bits in
    ap (λ k. eqb k 1) (bit_at_or m n q)
    ∙ either (bit_at m q) (bit_at n q) (bit_at-lt m q) (bit_at-lt n q)
