use Rattle.std.proofs.Common.{◌≡◌, ◌<◌, ◌==◌, ℕ, cond, take}
use Rattle.std.specs.List.{list_any}
use Rattle.marked_list.specs.Uses.{forgotten, living, stamp_at}
use Rattle.shared_list.specs.Log.{seen_by}
use Rattle.shared_list.specs.Stamps.{blocks_in, stamps_of, users_in}
use Rattle.shared_list.proofs.shorten.unstamp.Given as goal

-- the blocks of the uses that were passed are forgotten
abbrev pub invariant-loop-one : goal.invariant-loop-one
invariant-loop-one l = record {
  done : (q n : ℕ) → q < users_in l.fn.stamps → stamp_at (stamps_of l.stamps q) n
      ≡ cond (list_any (λ m. m == n) (living (seen_by q (take l.one-index l.log)))) forgotten
      (stamp_at (stamps_of l.fn.stamps q) n);
  blocks : blocks_in l.stamps ≡ blocks_in l.fn.stamps;
  users : users_in l.stamps ≡ users_in l.fn.stamps;
}
