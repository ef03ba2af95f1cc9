use Rattle.std.proofs.Common.{◌≡◌, ◌≤◌, ◌++◌, ℕ, reverse, take, get_or}
use Rattle.marked_list.specs.Uses.{living, since}
use Rattle.marked_list.proofs.uses.keep_last_uses.Given as goal

-- the last uses are those that were kept, behind those that are ahead; what is ahead is as it was
abbrev pub invariant-loop-place : goal.invariant-loop-place
invariant-loop-place l = record {
  few : l.kept ≤ l.place;
  left : (k : ℕ) → l.place ≤ k → get_or l.log k 0 ≡ get_or l.initial.log k 0;
  order : living (since l.place (reverse l.initial.log)) ++ reverse (take l.kept l.log)
      ≡ living (reverse l.initial.log);
}
