use Rattle.std.proofs.Common.{◌≢◌, ◌||◌, bit_or, ◌*◌, ◌^◌, ◌%◌, eqb, ap, sym, ◌∙◌, w32}
use Rattle.std.proofs.lemmas.Bool.{eqb-true, eqb-false, eq-eqb}
use Rattle.std.proofs.lemmas.Nat.Bits.{bit_at_set_other, bit_at_set_same}
use Rattle.cache_core.proofs.Cases.{by_cases}
use Rattle.shared_list.specs.Users.{has_user}
use Rattle.shared_list.proofs.users.with.Goals as goal

pub returns : goal.returns
returns c = λ q lt.
    let n = c.args.users in
    let u = c.args.user in
    by_cases (eqb q u)
    (λ e. ap (has_user (bit_or n (1 * 2 ^ u % 4294967296))) (eqb-true q u e)
    ∙ eq-eqb _ 1 (bit_at_set_same w32 n u c.requires)
    ∙ sym (ap (λ t. t || has_user n q) e))
    (λ e. let ne : q ≢ u = λ same. eqb-false q u e same in
    ap (λ b. eqb b 1) (bit_at_set_other w32 n u c.requires q ne)
    ∙ sym (ap (λ t. t || has_user n q) e))
