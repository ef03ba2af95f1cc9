use Rattle.std.proofs.Common.{◌≡◌, ◌<◌, ◌-◌, length}
use Rattle.marked_list.specs.Uses.{living, since}
use Rattle.shared_list.specs.Log.{seen_by}
use Rattle.shared_list.proofs.log.behind_next.Given as goal

-- the uses that were passed are dead for the user
abbrev pub invariant-loop-index : goal.invariant-loop-index
invariant-loop-index l = record {
  inside : l.index < length l.log;
  window : living (since l.place (seen_by l.user l.log))
      ≡ living (since l.index (seen_by l.user l.log));
}

abbrev pub decreases-loop-index : goal.decreases-loop-index
decreases-loop-index l = length l.log - l.index
