use Rattle.std.proofs.Common.{filter}
use Rattle.cache_core.proofs.Rising.{same_test, rises-rising}
use Rattle.cache_core.specs.Residents.{renewals}
use Rattle.cache_core.specs.Dirty.{is_dirty, dirty_blocks}
use Rattle.cache_core.proofs.Owed.{dirty-has, has-dirty}
use Rattle.cache_core.proofs.Reuse.{has}
use Rattle.cache_core.proofs.laws.dirty_blocks_are_the_dirty_ones.Goals as goal

pub returns-clause-rises : goal.returns-clause-rises
unfolding dirty_blocks
returns-clause-rises c = λ r h. rises-rising (filter (is_dirty r h) (renewals r h))

pub returns-clause-dirty : goal.returns-clause-dirty
returns-clause-dirty c = λ r h b.
    same_test (has (dirty_blocks r h) b) (is_dirty r h b) (has-dirty r h b) (dirty-has r h b)
