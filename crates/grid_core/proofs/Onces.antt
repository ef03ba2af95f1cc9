-- Lists in which no number stands twice, and how long they are.
use Rattle.std.proofs.Common.{◌≡◌, ℕ, true, List, length, arith}
use Rattle.cache_core.proofs.Reuse.{has}
use Rattle.cache_core.proofs.Shift.{IsOnce}
use Rattle.cache_core.proofs.Members.{as_many}

-- lists without repetitions that have the same members are equally long
pub once-length : (xs ys : List ℕ) → IsOnce xs → IsOnce ys
    → ((z : ℕ) → has xs z ≡ true → has ys z ≡ true)
    → ((z : ℕ) → has ys z ≡ true → has xs z ≡ true) → length xs ≡ length ys
once-length xs ys once-x once-y there back =
    let up = as_many xs ys once-x there in
    let down = as_many ys xs once-y back in
    omega arith
