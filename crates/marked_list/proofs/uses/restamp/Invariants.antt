use Rattle.std.proofs.Common.{◌≡◌, ℕ, reverse, take, unwrap_or}
use Rattle.marked_list.specs.Uses.{last_in, stamp_at}
use Rattle.marked_list.proofs.uses.restamp.Given as goal

-- the blocks that were passed have their stamps, and the others those of before
abbrev pub invariant-loop-place : goal.invariant-loop-place
invariant-loop-place l = (q : ℕ) → stamp_at l.stamps q
    ≡ unwrap_or (last_in (reverse (take l.place l.log)) q) (stamp_at l.initial.stamps q)
