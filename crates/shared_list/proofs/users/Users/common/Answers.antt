use Rattle.std.proofs.Common.{◌≡◌, ℕ, zero, suc, ◌<◌, ◌&&◌, eqb, min, refl, ap, ◌∙◌, arith}
use Rattle.std.specs.Int.{bit_at}
use Rattle.std.proofs.lemmas.Nat.Bits.{bit_at-lt, bit_at_and}
use Rattle.shared_list.proofs.users.Users.common.Goals as goal

-- of two bits, the lesser one is set if both are
both : (m n : ℕ) → m < 2 → n < 2 → eqb (min m n) 1 ≡ (eqb m 1 && eqb n 1)
both zero zero a b = refl
both zero (suc zero) a b = refl
both (suc zero) zero a b = refl
both (suc zero) (suc zero) a b = refl
both zero (suc (suc n)) a b = absurd (omega arith)
both (suc zero) (suc (suc n)) a b = absurd (omega arith)
both (suc (suc m)) n a b = absurd (omega arith)

pub returns : goal.returns
returns c = λ q.
    let m = c.args.self.bits in
    let n = c.args.others.bits in
    ap (λ k. eqb k 1) (bit_at_and m n q)
    ∙ both (bit_at m q) (bit_at n q) (bit_at-lt m q) (bit_at-lt n q)
