use Rattle.std.proofs.Common.{◌≡◌, ◌<◌, ℕ, ◌&&◌, not, cond, eqb, true}
use Rattle.marked_list.specs.Uses.{stamp_at}
use Rattle.shared_list.specs.Stamps.{blocks_in, stamps_of, users_in}
use Rattle.shared_list.specs.Users.{has_user}
use Rattle.shared_list.proofs.shorten.stamp_users.Given as goal

-- the users that are left are some of those of the use, and the others have their stamps
abbrev pub invariant-loop-rest : goal.invariant-loop-rest
invariant-loop-rest l = record {
  some : (q : ℕ) → q < 32 → has_user l.rest q ≡ true → has_user l.fn.one.users q ≡ true;
  done : (q n : ℕ) → q < users_in l.fn.stamps → stamp_at (stamps_of l.stamps q) n
      ≡ cond (eqb l.fn.one.number n && (has_user l.fn.one.users q && not (has_user l.rest q)))
      l.stamp (stamp_at (stamps_of l.fn.stamps q) n);
  blocks : blocks_in l.stamps ≡ blocks_in l.fn.stamps;
  users : users_in l.stamps ≡ users_in l.fn.stamps;
}

abbrev pub decreases-loop-rest : goal.decreases-loop-rest
decreases-loop-rest l = l.rest
