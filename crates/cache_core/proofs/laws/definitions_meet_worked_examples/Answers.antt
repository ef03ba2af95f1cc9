use Rattle.std.proofs.Common.{refl}
use Rattle.cache_core.specs.Residents.{reuse_distance, is_resident, renewals, victim}
use Rattle.cache_core.specs.Dirty.{is_written, is_dirty, dirty_blocks}
use Rattle.cache_core.specs.Kinds.{referenced_blocks, kind_of_miss}
use Rattle.cache_core.specs.Parts.{outcome_of}
use Rattle.cache_core.specs.Counts.{tally, flushes_in, flushed_back, counts_of}
use Rattle.cache_core.proofs.laws.definitions_meet_worked_examples.Goals as goal

pub returns : goal.returns
unfolding reuse_distance is_resident renewals victim is_written is_dirty dirty_blocks referenced_blocks kind_of_miss outcome_of tally flushes_in flushed_back counts_of
returns c = record {
  lru = refl;
  fifo = refl;
  dirty_victim = refl;
  write_through = refl;
  no_allocation = refl;
  flushed = refl;
  after_flush = refl;
  conflict = refl;
  clean_again = refl;
  counted = refl;
}
