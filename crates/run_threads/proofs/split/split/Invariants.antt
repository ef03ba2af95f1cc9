use Rattle.run_threads.proofs.Splitting.{Splits}
use Rattle.run_threads.proofs.split.split.Given as goal

abbrev pub invariant-loop : goal.invariant-loop
invariant-loop g l =
    Splits g.R.ByteReader.remaining g.R.ByteReader.failures l.fn.selection l.fn.source l.fn.ends
    l.selector l.splitter l.source l.ends
