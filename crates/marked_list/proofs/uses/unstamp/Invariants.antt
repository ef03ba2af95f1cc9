use Rattle.std.proofs.Common.{◌≡◌, ◌==◌, ℕ, if◌then◌else◌, reverse, take}
use Rattle.std.specs.List.{list_any}
use Rattle.marked_list.specs.Uses.{forgotten, stamp_at}
use Rattle.marked_list.proofs.uses.unstamp.Given as goal

-- the uses of the blocks that were passed are forgotten, and the others have the stamps of before
abbrev pub invariant-loop-number : goal.invariant-loop-number
invariant-loop-number l = (q : ℕ) → stamp_at l.stamps q
    ≡ (if list_any (λ m. m == q) (reverse (take l.number-index l.log)) then forgotten
    else stamp_at l.initial.stamps q)
