use Rattle.std.proofs.Common.{◌≡◌, ◌≢◌, ◌&&◌, ℕ, inl, inr, arith, bit_and, ◌-◌, ◌*◌, ◌^◌, ◌%◌, eqb}
use Rattle.std.proofs.Common.{not, ap, sym, ◌∙◌, w32}
use Rattle.std.specs.Int.{bit_at}
use Rattle.std.proofs.lemmas.Bool.{cases_eq, eqb-true, eqb-false}
use Rattle.std.proofs.lemmas.Nat.{and_le_l}
use Rattle.std.proofs.lemmas.Nat.Bits.{bit_at_clear_other, bit_at_clear_same}
use Rattle.cache_core.proofs.Cases.{by_cases}
use Rattle.shared_list.specs.Users.{has_user}
use Rattle.shared_list.proofs.users.without.Goals as goal

pub returns-clause-is : goal.returns-clause-is
returns-clause-is c = λ q lt.
    let n = c.args.users in
    let u = c.args.user in
    by_cases (eqb q u)
    (λ e. ap (has_user (bit_and n (4294967295 - 1 * 2 ^ u % 4294967296))) (eqb-true q u e)
    ∙ ap (λ b. eqb b 1) (bit_at_clear_same w32 n u c.requires)
    ∙ sym (ap (λ t. not t && has_user n q) e))
    (λ e. let ne : q ≢ u = λ same. eqb-false q u e same in
    ap (λ b. eqb b 1) (bit_at_clear_other w32 n u c.requires q lt ne)
    ∙ sym (ap (λ t. not t && has_user n q) e))

pub returns-clause-less : goal.returns-clause-less
returns-clause-less c = λ has.
    let n = c.args.users in
    let u = c.args.user in
    let left : ℕ = bit_and n (4294967295 - 1 * 2 ^ u % 4294967296) in
    let gone : bit_at left u ≡ 0 = bit_at_clear_same w32 n u c.requires in
    let set : bit_at n u ≡ 1 = eqb-true _ 1 has in
    elim (cases_eq left n) [
      | inl same ↦ absurd (let both : bit_at left u ≡ bit_at n u = ap (λ x. bit_at x u) same in
          omega (arith, both, gone, set))
      | inr other ↦ omega (arith, and_le_l n (4294967295 - 1 * 2 ^ u % 4294967296))
    ]
