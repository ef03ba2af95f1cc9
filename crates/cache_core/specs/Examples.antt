-- Examples of the definitions: traces, oldest event first, and outcomes that were worked out by
-- hand.
use Rattle.std.specs.Prelude.{◌≡◌, ℕ, true, false, List, [], ◌∷◌, reverse, Some, None}
use Rattle.cache_core.specs.declared.access.Class.TheVariants.{Instr, Read, Write}
use Rattle.cache_core.specs.declared.access.MissKind.{MissKind}
use Rattle.cache_core.specs.declared.access.MissKind.TheVariants.{Compulsory, Capacity, Conflict}
use Rattle.cache_core.specs.declared.access.Outcome.{Outcome}
use Rattle.cache_core.specs.History.{Event, access, flush, History, Rules}
use Rattle.cache_core.specs.Dirty.{dirty_blocks}
use Rattle.cache_core.specs.Parts.{outcome_of}
use Rattle.cache_core.specs.Counts.{counts_of, none_by_class, no_counts}

-- an instruction fetch at this address
abbrev pub instr : ℕ → Event
instr a = access (record { class = Instr; addr = a })

-- a read at this address
abbrev pub read : ℕ → Event
read a = access (record { class = Read; addr = a })

-- a write at this address
abbrev pub write : ℕ → Event
write a = access (record { class = Write; addr = a })

-- sixteen bytes in blocks of four: two sets of two blocks, LRU, write back, write allocation
abbrev pub data_cache : Rules
data_cache = record {
  bsize = 4;
  sets = 2;
  assoc = 2;
  blocks = 4;
  fifo = false;
  wback = true;
  walloc = true;
}

-- the same size, direct-mapped: four sets of one block
abbrev pub direct_mapped : Rules
direct_mapped = record data_cache { sets = 4; assoc = 1 }

-- the outcomes of the accesses of a trace, if it follows this history
abbrev pub outcomes : Rules → History → List Event → List Outcome
outcomes r h [] = []
outcomes r h (flush ∷ es) = outcomes r (flush ∷ h) es
outcomes r h (access x ∷ es) = outcome_of r h x ∷ outcomes r (access x ∷ h) es

-- the outcome of a hit
abbrev pub hit : Outcome
hit = record { hit = true; kind = None; back = None; fetch = false; through = false }

-- a miss that loads its block
abbrev pub missed : MissKind → Outcome
missed k = record { hit = false; kind = Some k; back = None; fetch = true; through = false }

-- a miss that loads its block, and writes back the dirty block at this address
abbrev pub missed_back : MissKind → ℕ → Outcome
missed_back k a = record (missed k) { back = Some a }

-- the outcome of the first access to a block
abbrev pub new : Outcome
new = missed Compulsory

-- the outcomes of small caches, worked out by hand
pub record WorkedExamples : Type 0 where
  -- 0 was used after 8, so 16 replaces 8
  pub lru : outcomes data_cache [] (read 0 ∷ read 8 ∷ read 0 ∷ read 16 ∷ read 0 ∷ [])
      ≡ new ∷ new ∷ hit ∷ new ∷ hit ∷ []
  -- 0 was loaded before 8, so 16 replaces 0
  pub fifo : outcomes (record data_cache { fifo = true }) []
      (read 0 ∷ read 8 ∷ read 0 ∷ read 16 ∷ read 0 ∷ [])
      ≡ new ∷ new ∷ hit ∷ new ∷ missed Conflict ∷ []
  pub dirty_victim : outcomes data_cache [] (write 0 ∷ read 8 ∷ read 16 ∷ [])
      ≡ new ∷ new ∷ missed_back Compulsory 0 ∷ []
  pub write_through : outcomes (record data_cache { wback = false }) []
      (write 2 ∷ write 2 ∷ [])
      ≡ record new { through = true } ∷ record hit { through = true } ∷ []
  -- without write allocation, the write does not load its block into the shadow either
  pub no_allocation : outcomes (record data_cache { walloc = false }) [] (write 0 ∷ read 0 ∷ [])
      ≡ record new { fetch = false; through = true } ∷ missed Capacity ∷ []
  pub flushed : dirty_blocks data_cache (reverse (write 8 ∷ write 0 ∷ [])) ≡ 0 ∷ 2 ∷ []
  -- the block was accessed before, and the flush emptied the shadow: a capacity miss
  pub after_flush : outcomes data_cache [] (read 0 ∷ flush ∷ read 0 ∷ [])
      ≡ new ∷ missed Capacity ∷ []
  pub conflict : outcomes direct_mapped [] (instr 0 ∷ instr 16 ∷ instr 0 ∷ [])
      ≡ new ∷ new ∷ missed Conflict ∷ []
  -- 0 was written before it was evicted, and is clean when it is loaded again
  pub clean_again : outcomes data_cache []
      (write 0 ∷ read 8 ∷ read 16 ∷ read 0 ∷ read 8 ∷ read 16 ∷ [])
      ≡ new ∷ new ∷ missed_back Compulsory 0
      ∷ missed Conflict ∷ missed Conflict ∷ missed Conflict ∷ []
  pub counted : counts_of data_cache (reverse (write 8 ∷ write 0 ∷ flush ∷ read 0 ∷ []))
      ≡ record no_counts {
        fetches = record none_by_class { read = 1; write = 2 };
        misses = record none_by_class { read = 1; write = 2 };
        compulsory = record none_by_class { write = 2 };
        capacity = record none_by_class { read = 1 };
        loaded = 3;
        written_back = 2;
        flushes = 1;
      }
