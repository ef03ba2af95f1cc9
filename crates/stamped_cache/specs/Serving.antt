-- How caches serve one access.
use Rattle.std.specs.Prelude.{◌≡◌, ◌≢◌, ℕ, ◌+◌, ◌^◌, ◌<◌, ◌∷◌, Bool, List, if◌then◌else◌}
use Rattle.cache_core.specs.declared.access.Access.{Access}
use Rattle.cache_core.specs.History.{History, access}
use Rattle.shared_list.specs.Shared.{IsBegun, order_by, was_used_by}
use Rattle.grid_core.specs.Numbers.{IsNumberOf}
use Rattle.stamped_cache.specs.declared.caches.StampedCaches.{StampedCaches}
use Rattle.stamped_cache.specs.Tallies.{tally_of}
use Rattle.stamped_cache.specs.Rows.{rows_of}
use Rattle.stamped_cache.specs.Stamped.{StampedStandsBy, stamped_has_failed, stamped_rules}
use Rattle.stamped_cache.specs.Stamped.{stamped_served, stamped_users}
use Rattle.stamped_cache.specs.States.{state_blocks, states_of}

-- all memory for an access to the block of a number is there
pub record IsReady (c : StampedCaches) (number : ℕ) : Type 0 where
  pub begun : IsBegun c.list number
  pub room : number < state_blocks c.states
  pub low : number < 2 ^ 32

-- the caches work as before, by the same rules
pub record IsSameSet (old new : StampedCaches) : Type 0 where
  pub rules : stamped_rules new ≡ stamped_rules old
  pub users : stamped_users new ≡ stamped_users old
  pub failed : stamped_has_failed new ≡ stamped_has_failed old

-- the cache of user q, and what is kept for it, is as before
pub record IsSameCache (q : ℕ) (old new : StampedCaches) : Type 0 where
  pub order : order_by new.list q ≡ order_by old.list q
  pub used : (n : ℕ) → was_used_by new.list q n ≡ was_used_by old.list q n
  pub states : (n : ℕ) → states_of new.states q n ≡ states_of old.states q n
  pub rows : (s : ℕ) → rows_of new.rows new.users q s ≡ rows_of old.rows old.users q s
  pub tally : tally_of new.tallies q ≡ tally_of old.tallies q

-- the cache of this user served an access to the block of this number, and no other cache did
pub record ServesOne (x : Access) (number user : ℕ) (old new : StampedCaches) : Type 0 where
  pub stands : (blocks : List ℕ) (h : History) →
      IsNumberOf blocks (stamped_rules old).bsize x number →
      StampedStandsBy blocks old user h → StampedStandsBy blocks new user (access x ∷ h)
  pub served : stamped_served new user ≡ stamped_served old user + 1
  pub others : (q : ℕ) → q < stamped_users old → q ≢ user → IsSameCache q old new
  pub same : IsSameSet old new
  pub ready : IsReady new number

-- the caches of those users that pass served an access to the block of this number, and no other
-- cache did
pub record ServesThose (x : Access) (number : ℕ) (those : ℕ → Bool) (old new : StampedCaches)
    : Type 0 where
  pub stands : (blocks : List ℕ) (q : ℕ) (h : History) → q < stamped_users old →
      IsNumberOf blocks (stamped_rules old).bsize x number → StampedStandsBy blocks old q h →
      StampedStandsBy blocks new q (if those q then access x ∷ h else h)
  pub served : (q : ℕ) → q < stamped_users old → stamped_served new q
      ≡ (if those q then stamped_served old q + 1 else stamped_served old q)
  pub same : IsSameSet old new
