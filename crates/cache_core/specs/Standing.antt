-- How the state of a cache relates to its history: the one link from the definitions to the code.
use Rattle.std.specs.Prelude.{◌≡◌, ℕ, ◌*◌, ◌%◌, ◌<◌, Bool, false, ◌==◌, nat_eq, List, length, map}
use Rattle.std.specs.Prelude.{filter}
use Rattle.std.specs.List.{list_any}
use Rattle.std.specs.HashSet.{contains}
use Rattle.cache_core.specs.declared.policy.Policy.{Policy}
use Rattle.cache_core.specs.declared.counts.Counts.{Counts}
use Rattle.cache_core.specs.declared.geometry.Geometry.{Geometry}
use Rattle.cache_core.specs.declared.access.Access.{Access}
use Rattle.cache_core.specs.declared.access.Served.{Served}
use Rattle.cache_core.specs.declared.ways.Way.{Way}
use Rattle.cache_core.specs.declared.kinds.Prior.{Prior}
use Rattle.cache_core.specs.declared.contents.Contents.{Contents}
use Rattle.cache_core.specs.declared.cache.Cache.{Cache}
use Rattle.cache_core.specs.History.{Rules, History, block_of}
use Rattle.cache_core.specs.Residents.{hits, renewals, is_resident}
use Rattle.cache_core.specs.Order.{residents_of}
use Rattle.cache_core.specs.Kinds.{shadow_of, referenced_blocks}
use Rattle.cache_core.specs.Counts.{counts_of}
use Rattle.cache_core.specs.Geometry.{bsize_of, assoc_of, sets_of, blocks_of}
use Rattle.cache_core.specs.Parts.{outcome_of}
use Rattle.cache_core.specs.Row.{row, row_of, is_valid, block_addr_of, dirty_count}
use Rattle.cache_core.specs.Sets.{ways_in}
use Rattle.cache_core.specs.Policy.{is_fifo}

-- the rules of a cache of this shape and policy
abbrev pub rules_from : Geometry → Policy → Rules
rules_from g p = record {
  bsize = bsize_of g;
  sets = sets_of g;
  assoc = assoc_of g;
  blocks = blocks_of g;
  fifo = is_fifo p;
  wback = p.wback;
  walloc = p.walloc;
}

-- the rules of a cache of these contents
unfoldable pub rules_held : Contents → Rules
rules_held c = rules_from c.geometry c.policy

-- the ways of all sets, one set after another
unfoldable pub ways_held : Contents → List Way
ways_held c = ways_in c.sets

-- how many ways are dirty
abbrev pub dirty_held : Contents → ℕ
dirty_held c = dirty_count (ways_held c)

-- the contents are those after the history: each set has its residents by last use (FIFO: by last
-- load), the latest first, with their dirty bits
pub record Holds (c : Contents) (h : History) : Type 0 where
  pub rows : (s : ℕ) → s < (rules_held c).sets →
      row (rules_held c).assoc s (ways_held c) ≡ row_of (rules_held c) h s

-- what the sets answer to the access x, after the history h
pub record IsServed (r : Rules) (h : History) (x : Access) (s : Served) : Type 0 where
  pub hit : s.hit ≡ (outcome_of r h x).hit
  pub back : s.back ≡ (outcome_of r h x).back

-- what is known of the block of the access x, after the history h
pub record IsKnown (r : Rules) (h : History) (x : Access) (p : Prior) : Type 0 where
  pub referenced : p.referenced ≡ list_any (λ b. b == block_of r x) (referenced_blocks r h)
  pub in_shadow : p.in_shadow ≡ hits (shadow_of r) (renewals (shadow_of r) h) x

-- the rules that a cache follows
unfoldable pub rules_of : Cache → Rules
rules_of c = rules_held c.contents

-- how many accesses and flushes succeeded
unfoldable pub served_of : Cache → ℕ
served_of c = c.served

-- the counts that a cache keeps
unfoldable pub counts_kept : Cache → Counts
counts_kept c = c.counts

-- whether an allocation failed
unfoldable pub has_failed : Cache → Bool
has_failed c = c.failed

-- the first bytes of the blocks that set s holds, in the order of its ways
unfoldable pub held_in : Cache → ℕ → List ℕ
held_in c s = map block_addr_of
    (filter is_valid (row (rules_of c).assoc s (ways_held c.contents)))

-- a block as an entry of a map without values
abbrev with_unit : ℕ → ℕ × Unit {0}
with_unit b = (b, tt)

-- the cache stands for the history: it has not failed, and its state is what the history gives
pub record StandsFor (c : Cache) (h : History) : Type 0 where
  pub working : has_failed c ≡ false
  pub holds : Holds c.contents h
  -- the shadow has its residents by last use, the latest first
  pub shadow : c.classifier.shadow.entries
      ≡ map with_unit (residents_of (shadow_of (rules_of c)) h 0)
  pub referenced : (b : ℕ) →
      contains nat_eq c.classifier.referenced b
      ≡ list_any (λ t. nat_eq t b) (referenced_blocks (rules_of c) h)
  pub counts : counts_kept c ≡ counts_of (rules_of c) h
  pub served : served_of c ≡ length h

-- the ways of each set hold exactly its residents, in order
pub record HoldsResidents (c : Cache) (h : History) : Type 0 where
  pub in_order : (s : ℕ) → s < (rules_of c).sets →
      held_in c s ≡ map (λ b. b * (rules_of c).bsize) (residents_of (rules_of c) h s)
  -- the residents in order are the residents by reuse distance
  pub residents : (b : ℕ) →
      list_any (λ m. m == b) (residents_of (rules_of c) h (b % (rules_of c).sets))
      ≡ is_resident (rules_of c) (renewals (rules_of c) h) b
