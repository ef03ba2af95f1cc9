use Rattle.std.proofs.Common.{[], subst}
use Rattle.std.proofs.lemmas.Result.{MatchResult-from_err}
use Rattle.din_trace.specs.Remaining.{Open}
use Rattle.din_trace.specs.Source.{HasLeft}
use Rattle.din_trace.proofs.Calls.{no_calls, answers-asked}
use Rattle.run_threads.proofs.split.next_record.Goals as goal

pub returns-in_err-publish-clause-reads : goal.returns-in_err-publish-clause-reads
returns-in_err-publish-clause-reads g c = (
  [],
  Open,
  no_calls g.R.ByteReader.remaining g.R.ByteReader.failures c.args.source.now,
  λ before later l is left. MatchResult-from_err c.from_residual.result _ _
      c.from_residual.ensures.0 (λ _. subst (λ s. HasLeft c.args.source.now s l) is left),
)

pub returns-clause-reads : goal.returns-clause-reads
returns-clause-reads g c =
    answers-asked g.R.ByteReader.remaining g.R.ByteReader.failures c.args.source.now
    c.at_hand.new.self c.ask.new.self c.ask.result c.in_default.ensures.reads.0
    c.in_default.ensures.reads.1 c.ask.ensures.reads c.ask.ensures.settled
