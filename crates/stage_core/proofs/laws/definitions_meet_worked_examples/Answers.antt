use Rattle.std.proofs.Common.{refl}
use Rattle.cache_core.specs.Residents.{reuse_distance, is_resident, renewals, victim}
use Rattle.cache_core.specs.Dirty.{is_written, is_dirty, dirty_blocks}
use Rattle.cache_core.specs.Parts.{outcome_of}
use Rattle.cache_core.specs.Counts.{counts_of, tally, flushes_in, flushed_back}
use Rattle.stage_core.specs.SecondLevel.{parts_of}
use Rattle.stage_core.proofs.laws.definitions_meet_worked_examples.Goals as goal

pub returns : goal.returns
unfolding parts_of outcome_of victim renewals is_resident reuse_distance dirty_blocks is_dirty is_written counts_of tally flushes_in flushed_back
returns c = record {
  order_victim = refl;
  to_d_victim = refl;
  from_d_victim = refl;
  second_victim = refl;
  misses_victim = refl;
  messages_victim = refl;
  order_flush = refl;
  to_i_flush = refl;
  from_i_flush = refl;
  from_d_flush = refl;
  second_flush = refl;
  messages_flush = refl;
  backs_flush = refl;
  from_d_through = refl;
  from_i_fetch = refl;
  second_fetch = refl;
  messages_none = refl;
  put_in = refl;
  one_behind_one = refl;
  all_behind_two = refl;
}
