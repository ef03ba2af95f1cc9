use Rattle.std.proofs.Common.{◌≡◌, ◌<◌, ◌-◌, length, reverse}
use Rattle.marked_list.specs.Uses.{living, since}
use Rattle.marked_list.proofs.uses.behind_living.Given as goal

-- the uses that were passed are dead
abbrev pub invariant-loop-index : goal.invariant-loop-index
invariant-loop-index l = record {
  inside : l.index < length l.log;
  window : living (since l.place (reverse l.log)) ≡ living (since l.index (reverse l.log));
}

abbrev pub decreases-loop-index : goal.decreases-loop-index
decreases-loop-index l = length l.log - l.index
