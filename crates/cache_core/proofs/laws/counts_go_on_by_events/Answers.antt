use Rattle.std.proofs.Common.{◌≡◌, [], length, refl, sym}
use Rattle.cache_core.specs.History.{Rules}
use Rattle.cache_core.specs.Dirty.{dirty_blocks}
use Rattle.cache_core.specs.Counts.{counts_of, no_counts, tally, flushes_in, flushed_back}
use Rattle.cache_core.proofs.Steps.{counts-step, flush-counts}
use Rattle.cache_core.proofs.laws.counts_go_on_by_events.Goals as goal

none : (r : Rules) → counts_of r [] ≡ no_counts
unfolding counts_of tally flushes_in flushed_back
none r = refl

pub returns : goal.returns
returns c = λ r. record {
  none = none r;
  accesses = λ h x. sym (counts-step r h x);
  flushes = λ h. sym (flush-counts r h (length (dirty_blocks r h)) refl);
}
