use Rattle.std.proofs.Common.{◌≡◌, ◌<◌, ◌≤◌, ℕ, length, filter, take, get_or}
use Rattle.shared_list.specs.Log.{has_users}
use Rattle.shared_list.proofs.shorten.kept_before.Given as goal

-- the places that were passed have their numbers, and the next one is known
abbrev pub invariant-loop-one : goal.invariant-loop-one
invariant-loop-one l = record {
  long : length l.before.items ≡ l.one-index;
  few : l.kept ≤ l.one-index;
  now : l.kept ≡ length (filter has_users (take l.one-index l.log));
  each : (p : ℕ) → p < l.one-index →
      get_or l.before.items p 0 ≡ length (filter has_users (take p l.log));
}
