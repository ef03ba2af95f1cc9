use Rattle.std.proofs.Common.{◌≡◌, ◌<◌, ℕ, nat_lt}
use Rattle.shared_list.specs.Users.{is_user}
use Rattle.shared_list.proofs.users.Users.below.Given as goal

-- the users so far are among them
abbrev pub invariant-loop-user : goal.invariant-loop-user
invariant-loop-user l = (q : ℕ) → q < 32 → is_user l.users q ≡ nat_lt q l.user
