use Rattle.std.proofs.Common.{Option, Some, None, refl}
use Rattle.std.specs.Prelude.{IfNone, IfSome, MatchOption}
use Rattle.din_trace.specs.Source as words
use Rattle.din_trace.proofs.Calls.{asks_nothing}
use Rattle.din_trace.proofs.source.Source.at_hand.Goals as goal

-- a property of `None` and one of each answer, joined into one clause
either : {T A B : Type 0} (o : Option T) (was none : A → B → Type 0) (some : T → A → B → Type 0)
    → IfNone o ((a : A) (b : B) → was a b → none a b)
    → IfSome o (λ x. (a : A) (b : B) → was a b → some x a b)
    → (a : A) (b : B) → was a b → MatchOption o (none a b) (λ x. some x a b)
either None was none some n s a b h = n a b h
either (Some x) was none some n s a b h = s a b h

pub returns-clause-reads : goal.returns-clause-reads
unfolding words.reader_of words.taken_by words.HasLeft
returns-clause-reads g c = (
  asks_nothing g.R.ByteReader.remaining g.R.ByteReader.failures _ _ refl c.answer.ensures.taken,
  either c.answer.result _ _ _ c.answer.ensures.goes_on c.answer.ensures.answer,
)
