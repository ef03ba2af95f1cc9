use Rattle.std.proofs.Common.{◌≡◌, ◌<◌, ◌≤◌, ℕ, length, get_or}
use Rattle.marked_list.specs.Uses.{stamp_at}
use Rattle.shared_list.specs.Stamps.{stamps_of}
use Rattle.shared_list.proofs.stamps.Stamps.least.Given as goal

-- of the blocks that were passed, the one that was found has the least stamp
abbrev pub invariant-loop-index : goal.invariant-loop-index
invariant-loop-index l = record {
  inside : l.found < length l.numbers;
  stamp : l.least ≡ stamp_at (stamps_of l.self l.user) (get_or l.numbers l.found 0);
  least : (k : ℕ) → k < l.index →
      l.least ≤ stamp_at (stamps_of l.self l.user) (get_or l.numbers k 0);
}
