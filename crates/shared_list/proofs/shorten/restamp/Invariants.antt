use Rattle.std.proofs.Common.{◌≡◌, ◌≢◌, ◌<◌, ℕ, take}
use Rattle.std.specs.Prelude.{unwrap_or}
use Rattle.marked_list.specs.Uses.{dead, last_in, stamp_at}
use Rattle.shared_list.specs.Log.{seen_by}
use Rattle.shared_list.specs.Stamps.{blocks_in, stamps_of, users_in}
use Rattle.shared_list.proofs.shorten.restamp.Given as goal

-- the uses that were passed have stamped their blocks
abbrev pub invariant-loop-place : goal.invariant-loop-place
invariant-loop-place l = record {
  done : (q n : ℕ) → q < users_in l.fn.stamps → n ≢ dead → stamp_at (stamps_of l.stamps q) n
      ≡ unwrap_or (last_in (seen_by q (take l.place l.log)) n)
      (stamp_at (stamps_of l.fn.stamps q) n);
  no_block : (q : ℕ) → q < users_in l.fn.stamps →
      stamp_at (stamps_of l.stamps q) dead ≡ stamp_at (stamps_of l.fn.stamps q) dead;
  blocks : blocks_in l.stamps ≡ blocks_in l.fn.stamps;
  users : users_in l.stamps ≡ users_in l.fn.stamps;
}
