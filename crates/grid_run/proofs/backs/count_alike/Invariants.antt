use Rattle.std.proofs.Common.{◌<◌, ◌≤◌, ◌-◌, length, take}
use Rattle.grid_run.specs.Alike.{AreAlike}
use Rattle.grid_run.proofs.backs.count_alike.Given as goal

-- the shelves that were passed are alike
abbrev pub invariant-alike : goal.invariant-alike
invariant-alike l = record {
  some : 0 < l.count;
  few : l.count ≤ 32;
  inside : l.count ≤ length l.shelves;
  alike : AreAlike (take l.count l.shelves);
}

-- each turn leaves fewer of them
abbrev pub decreases-alike : goal.decreases-alike
decreases-alike l = length l.shelves - l.count
