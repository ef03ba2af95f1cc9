use Rattle.std.proofs.Common.{of_calls}
use Rattle.grid_run.proofs.Readings.{on-any, wanting-before, wanting-beside, when-ok}
use Rattle.grid_run.proofs.run.take_and_read.Goals as goal

pub returns-then-is_err-clause-read : goal.returns-then-is_err-clause-read
returns-then-is_err-clause-read g c =
    wanting-before g.R.ByteReader.remaining g.R.ByteReader.failures c.args.source.now
    c.args.next.now.items

pub returns-then-not-may_start_threads-clause-taken :
    goal.returns-then-not-may_start_threads-clause-taken
returns-then-not-may_start_threads-clause-taken g c =
    on-any c.read_batch.result
    (when-ok c.take.result c.if-is_err.ensures.negation c.take.ensures.taken)

pub returns-then-is_err-2-clause-read : goal.returns-then-is_err-2-clause-read
returns-then-is_err-2-clause-read g c =
    wanting-beside g.R.ByteReader.remaining g.R.ByteReader.failures c.args.source.now _ _
    c.join_mut-read.result.0 (search of_calls)

pub returns-clause-taken : goal.returns-clause-taken
returns-clause-taken g c =
    on-any c.join_mut-read.result.0
    (when-ok c.join_mut-read.result.1 c.if-is_err-2.ensures.negation (search of_calls))
