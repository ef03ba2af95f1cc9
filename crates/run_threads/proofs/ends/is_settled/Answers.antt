use Rattle.std.proofs.Common.{◌≡◌, ◌++◌, ℕ, List, length, ap}
use Rattle.std.proofs.Common.{arith, length-append, refl}
use Rattle.run_threads.proofs.ends.is_settled.Goals as goal

-- if every message was received, none is left
none-left : {X : Type 0} (sent received : List X) (n : ℕ) → (rest : List X) × (length rest ≡ n)
    × (sent ≡ received ++ rest) → received ≡ sent → n ≡ 0
none-left sent received n behind all =
    let a : length sent ≡ length (received ++ behind.0) = ap length behind.2 in
    let b : length received ≡ length sent = ap length all in
    let c : length behind.0 ≡ n = behind.1 in
    omega (arith, length-append received behind.0)

pub returns-clause-only : goal.returns-clause-only
returns-clause-only g c = λ all.
    let none : c.settle.result ≡ 0 = none-left _ _ c.settle.result c.settle.ensures.left all in
    rw none refl
