-- Laws: properties that follow from the definitions alone.
use Rattle.std.specs.Prelude.{◌≡◌, ◌≢◌, ℕ, ◌+◌, ◌%◌, ◌≤◌, ◌==◌}
use Rattle.std.specs.Prelude.{true, false, [], ◌∷◌}
use Rattle.std.specs.Prelude.{length, Some, is_some}
use Rattle.std.specs.List.{list_any}
use Rattle.std.specs.List.Sorted.{IsStrictlyIncreasing}
use Rattle.cache_core.specs.declared.access.Access.{Access}
use Rattle.cache_core.specs.declared.access.MissKind.TheVariants.{Conflict}
use Rattle.cache_core.specs.History.{Event, access, flush, History, Rules, is_write}
use Rattle.cache_core.specs.Residents.{is_resident, leaves, renewals}
use Rattle.cache_core.specs.Order.{residents_of}
use Rattle.cache_core.specs.Dirty.{is_dirty, dirty_blocks}
use Rattle.cache_core.specs.Parts.{one_if, outcome_of, part_count}
use Rattle.cache_core.specs.Counts.{counts_of, no_counts}
use Rattle.cache_core.specs.Counting.{with_access, with_flush}

-- if the blocks of a set are ordered by last use (FIFO: by last load), the latest first, the
-- residents of the set are the first ones, as many as it has ways
abbrev pub OrderedWaysAreResidents : Type 0
OrderedWaysAreResidents = (r : Rules) (h : History) (b : ℕ) →
    list_any (λ m. m == b) (residents_of r h (b % r.sets)) ≡ is_resident r (renewals r h) b

-- an access evicts at most one block
abbrev pub AtMostOneLeaves : Type 0
AtMostOneLeaves = (r : Rules) (h : History) (x : Access) (a b : ℕ) →
    leaves r h x a ≡ true → leaves r h x b ≡ true → a ≡ b

-- the cache is fully associative (one set of all blocks) and LRU
pub record IsOneLruSet (r : Rules) : Type 0 where
  pub one_set : r.sets ≡ 1
  pub all_blocks : r.assoc ≡ r.blocks
  pub lru : r.fifo ≡ false

-- a fully associative LRU cache has no conflict miss
abbrev pub OneLruSetHasNoConflict : Type 0
OneLruSetHasNoConflict = (r : Rules) → IsOneLruSet r → (h : History) (x : Access) →
    (outcome_of r h x).kind ≢ Some Conflict

-- the block that an access writes back, if any, and the dirty blocks after it are together no more
-- than the dirty blocks before it, and one more for a write
abbrev pub WriteBacksAreOfWrites : Type 0
WriteBacksAreOfWrites = (r : Rules) (h : History) (x : Access) →
    one_if (is_some (outcome_of r h x).back) + length (dirty_blocks r (access x ∷ h))
    ≤ length (dirty_blocks r h) + one_if (is_write x)

-- the blocks written back so far, by accesses and flushes and by the last event itself, are no more
-- than the writes before that event: so each write-back has an earlier write of its own
abbrev pub WriteBacksHaveEarlierWrites : Type 0
WriteBacksHaveEarlierWrites = (r : Rules) (h : History) (last : Event) →
    (counts_of r (last ∷ h)).written_back ≤ (counts_of r h).fetches.write

-- the parts that an access sends and the dirty blocks after it are together at most one more than
-- the dirty blocks before it, or two more if it is a write
abbrev pub PartsAreCharged : Type 0
PartsAreCharged = (r : Rules) (h : History) (x : Access) →
    part_count (outcome_of r h x) + length (dirty_blocks r (access x ∷ h))
    ≤ length (dirty_blocks r h) + (1 + one_if (is_write x))

-- after a flush no block is dirty
abbrev pub FlushesLeaveNoneDirty : Type 0
FlushesLeaveNoneDirty = (r : Rules) (h : History) → dirty_blocks r (flush ∷ h) ≡ []

-- the list of the dirty blocks is strictly rising, so no block is in it twice
abbrev pub DirtyBlocksRise : Type 0
DirtyBlocksRise = (r : Rules) (h : History) → IsStrictlyIncreasing (dirty_blocks r h)

-- the list of the dirty blocks has exactly the blocks that are dirty
abbrev pub DirtyBlocksAreDirty : Type 0
DirtyBlocksAreDirty = (r : Rules) (h : History) (b : ℕ) →
    list_any (λ m. m == b) (dirty_blocks r h) ≡ is_dirty r h b

-- the counts over a whole history go on from none, event by event: with each access by its outcome,
-- and with each flush by the number of dirty blocks before it
pub record CountsGoOn (r : Rules) : Type 0 where
  pub none : counts_of r [] ≡ no_counts
  pub accesses : (h : History) (x : Access) →
      counts_of r (access x ∷ h) ≡ with_access x (outcome_of r h x) (counts_of r h)
  pub flushes : (h : History) →
      counts_of r (flush ∷ h) ≡ with_flush (length (dirty_blocks r h)) (counts_of r h)

-- so it is for all rules
abbrev pub CountsGoOnByEvents : Type 0
CountsGoOnByEvents = (r : Rules) → CountsGoOn r
