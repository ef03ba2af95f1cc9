-- What holds of a reader that is lent holds of the reader behind it.
use Rattle.std.proofs.Common.{inl, inr, ℕ, List, Option}
use Rattle.din_trace.specs.declared.fault.TraceFault.{TraceFault}
use Rattle.din_trace.specs.Faults.{GaveAll, IsFaultOf}

module _ {R Lent : Type 0} {remaining : R → Option (List ℕ)} {failures : R → ℕ}
    (behind : Lent → R) (reader : Lent) {text : List ℕ} where
  -- the reader behind it gave all of the text
  pub lent_gave_all : GaveAll (λ r. remaining (behind r)) (λ r. failures (behind r)) reader text
      → GaveAll remaining failures (behind reader) text
  lent_gave_all all =
      record { last = behind all.last; gave = all.gave; ended = all.ended; sound = all.sound }

  -- the fault is that of the reader behind it
  pub lent_fault : {limit : ℕ} {met : TraceFault}
      → IsFaultOf (λ r. remaining (behind r)) (λ r. failures (behind r)) reader text limit met
      → IsFaultOf remaining failures (behind reader) text limit met
  lent_fault (inl told) = inl told
  lent_fault (inr told) = inr (
    told.0,
    record {
      rest = told.1.rest;
      whole = told.1.whole;
      last = behind told.1.last;
      told = told.1.told;
      failed = told.1.failed;
    },
    told.2,
    told.3,
  )
