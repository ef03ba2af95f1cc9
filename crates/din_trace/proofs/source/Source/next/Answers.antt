use Rattle.std.proofs.Common.{◌≡◌, false, sym}
use Rattle.std.proofs.lemmas.Bool.{false≢true}
use Rattle.din_trace.specs.declared.backlog.State.{State}
use Rattle.din_trace.specs.declared.backlog.State.TheVariants as states
use Rattle.din_trace.specs.State.{is_reading}
use Rattle.din_trace.specs.Source as words
use Rattle.din_trace.proofs.Calls.{answers-at_hand, answers-asked}
use Rattle.din_trace.proofs.source.Source.next.Goals as goal

goes-on : (state : State) → state ≡ states.Reading → is_reading state ≡ false → ⊥
goes-on state reading settled = false≢true (sym (rw reading at settled))

pub returns-in-Some-clause-reads : goal.returns-in-Some-clause-reads
returns-in-Some-clause-reads g c = answers-at_hand g.R.ByteReader.remaining g.R.ByteReader.failures
    c.args.self.now c.at_hand.new.self _ c.in-Some.ensures.reads.0 c.in-Some.ensures.reads.1

pub returns-in-None-clause-reads : goal.returns-in-None-clause-reads
unfolding words.IsSettled words.MustAsk
returns-in-None-clause-reads g c = answers-asked g.R.ByteReader.remaining g.R.ByteReader.failures
    c.args.self.now c.at_hand.new.self c.ask-answer.new.self c.ask-answer.result
    c.in-None.ensures.reads.0
    c.in-None.ensures.reads.1 c.ask-answer.ensures.reads
    (λ settled. absurd (goes-on c.at_hand.new.self.backlog.state c.in-None.ensures.asks.0 settled))
