use Rattle.std.proofs.Common.{◌≡◌, ◌<◌, ◌&&◌, ℕ, true, not}
use Rattle.shared_list.specs.Users.{bits_of, is_user}
use Rattle.stamped_cache.specs.Serving.{IsReady, ServesThose}
use Rattle.stamped_cache.specs.Stamped.{stamped_users}
use Rattle.stamped_cache.proofs.caches.StampedCaches.serve.Given as goal

-- the users that are left are some of those that are named, each has a cache, and the caches of the
-- others served the access
abbrev pub invariant-loop-user : goal.invariant-loop-user
invariant-loop-user l = record {
  some : (q : ℕ) → q < 32 → is_user l.rest q ≡ true → is_user l.fn.users q ≡ true;
  low : (q : ℕ) → q < 32 → is_user l.rest q ≡ true → q < stamped_users l.fn.self;
  done : ServesThose l.access l.number (λ q. is_user l.fn.users q && not (is_user l.rest q))
      l.fn.self l.self;
  ready : IsReady l.self l.number;
}

abbrev pub decreases-loop-user : goal.decreases-loop-user
decreases-loop-user l = bits_of l.rest
