use Rattle.cache_core.proofs.EarlierWrites.{write_backs_of_writes, write_backs_have_earlier_writes}
use Rattle.cache_core.proofs.EarlierWrites.{parts_charged, flushes_leave_none_dirty}
use Rattle.cache_core.proofs.laws.write_backs_are_charged.Goals as goal

pub returns-clause-writes : goal.returns-clause-writes
returns-clause-writes c = write_backs_of_writes

pub returns-clause-histories : goal.returns-clause-histories
returns-clause-histories c = write_backs_have_earlier_writes

pub returns-clause-accesses : goal.returns-clause-accesses
returns-clause-accesses c = parts_charged

pub returns-clause-flushes : goal.returns-clause-flushes
returns-clause-flushes c = flushes_leave_none_dirty
