use Rattle.std.proofs.Common.{◌≡◌, ◌<◌, ◌≤◌, ◌+◌, ◌^◌, ◌++◌, ◌∷◌, [], List, Option, Some, Ok}
use Rattle.std.proofs.Common.{cond, ap, refl, sym, subst, ◌∙◌, inl, inr, arith, length}
use Rattle.std.proofs.Common.{length-append}
use Rattle.din_trace.specs.Source.{room_of}
use Rattle.din_trace.specs.declared.record.DinRecord.{DinRecord}
use Rattle.din_trace.specs.declared.source.Source.{Source}
use Rattle.grid_run.specs.Readings.{HasRead, HasStopped}
use Rattle.grid_run.proofs.Readings.{end-read, fault-read, memory-met, record-read, wanting}
use Rattle.grid_run.proofs.run.read_batch.Goals as goal
use Rattle.grid_run.proofs.run.read_batch.Goals.{After-next, Else-is_err}
use Rattle.grid_run.proofs.run.read_batch.Given.{Over}

-- a source can give no more than a source may
few : (g : Over) (c : After-next g) → room_of c.args.source.now ≤ 2 ^ 40
few g c = elim c.records.invariant.bounded [
  | inl is ↦ omega (arith, c.next.ensures.room, ap room_of is)
  | inr h ↦ h
]

-- the record that was read stands behind those that were there
module _ (g : Over) (c : Else-is_err g) where
  abbrev batch : List DinRecord
  batch = c.records.batch.items

  abbrev r : DinRecord
  r = c.in-Ok-Some.next

  answered : c.next.result ≡ Ok (Some r)
  answered = c.in-Ok-Some.is ∙ ap (λ (found : Option DinRecord). Ok found) c.in-Ok-Some.field-0-is

  pushed : c.push.new.self.items ≡ batch ++ r ∷ []
  pushed = c.push.ensures.items
      ∙ ap (λ t. cond t (batch ++ r ∷ []) batch) c.if-is_err.ensures.negation

  longer : length c.push.new.self.items ≡ length batch + 1
  longer = omega (arith, ap length pushed, length-append batch (r ∷ []))

  less : room_of c.next.new.self < room_of c.records.source
  less = (rw answered at c.next.ensures.records) refl

  read : (start : Source g.row.R.Denot) (past : List DinRecord)
      → HasRead g.R.ByteReader.remaining g.R.ByteReader.failures start c.args.source.now past
      → HasRead g.R.ByteReader.remaining g.R.ByteReader.failures start c.next.new.self
      (past ++ c.push.new.self.items)
  read start past was = subst (λ (b : List DinRecord).
      HasRead g.R.ByteReader.remaining g.R.ByteReader.failures start c.next.new.self (past ++ b))
      (sym pushed) (record-read g.R.ByteReader.remaining g.R.ByteReader.failures
      c.args.source.now c.records.source c.next.new.self batch c.records.invariant.read
      c.next.result c.next.ensures.reads c.next.ensures.settled start past was r answered)

pub records-preserved : goal.records-preserved
records-preserved g c =
    let c₁ = (goal.at.records-preserved g c).After-next in
    let c₂ = (goal.at.records-preserved g c).Else-is_err in
    record {
      read = read g c₂;
      room = omega (arith, longer g c₂, c.records.invariant.room, less g c₂);
      bounded = inr (few g c₁);
    }

pub returns-then-len-size-clause-read : goal.returns-then-len-size-clause-read
returns-then-len-size-clause-read g c =
    let c₁ = (goal.at.returns-then-len-size-clause-read g c).After-next in
    let c₂ = (goal.at.returns-then-len-size-clause-read g c).Else-is_err in
    let now = c.records.invariant in
    record {
      more = λ start past was e. read g c₂ start past was;
      ended = λ start past was e. absurd cc;
      failed = λ start past was why e. absurd cc;
      memory = memory-met g.R.ByteReader.remaining g.R.ByteReader.failures
          c.args.source.now c.records.source c.next.new.self c.records.batch.items now.read
          c.next.result c.next.ensures.reads c.next.ensures.settled;
      full = λ e. omega (arith, longer g c₂);
      room = λ going e. omega (arith, longer g c₂, now.room, less g c₂);
      bounded = λ going e. few g c₁;
    }

pub returns-then-is_err-clause-read : goal.returns-then-is_err-clause-read
returns-then-is_err-clause-read g c =
    wanting g.R.ByteReader.remaining g.R.ByteReader.failures c.args.source.now c.next.new.self
    c.push.new.self.items (memory-met g.R.ByteReader.remaining g.R.ByteReader.failures
    c.args.source.now c.records.source c.next.new.self c.records.batch.items
    c.records.invariant.read c.next.result c.next.ensures.reads c.next.ensures.settled)

pub returns-in-Ok-None-clause-read : goal.returns-in-Ok-None-clause-read
returns-in-Ok-None-clause-read g c =
    let c₁ = (goal.at.returns-in-Ok-None-clause-read g c).After-next in
    let now = c.records.invariant in
    let answered = c.in-Ok-None.is ∙ ap (λ (found : Option DinRecord). Ok found)
    c.in-Ok-None.field-0-is in
    record {
      more = λ start past was e. absurd cc;
      ended = λ start past was e. end-read g.R.ByteReader.remaining g.R.ByteReader.failures
          c.args.source.now c.records.source c.next.new.self c.records.batch.items now.read
          c.next.result c.next.ensures.reads c.next.ensures.settled start past was answered;
      failed = λ start past was why e. absurd cc;
      memory = memory-met g.R.ByteReader.remaining g.R.ByteReader.failures
          c.args.source.now c.records.source c.next.new.self c.records.batch.items now.read
          c.next.result c.next.ensures.reads c.next.ensures.settled;
      full = λ e. absurd cc;
      room = λ going e. omega (arith, now.room, c.next.ensures.no_more);
      bounded = λ going e. few g c₁;
    }

pub returns-in-Err-clause-read : goal.returns-in-Err-clause-read
returns-in-Err-clause-read g c =
    let now = c.records.invariant in
    record {
      more = λ start past was e. absurd cc;
      ended = λ start past was e. absurd cc;
      failed = λ start past was why e.
          let same : c.fault_of_source.result ≡ why = cc in
          subst (HasStopped g.R.ByteReader.remaining g.R.ByteReader.failures start
          c.next.new.self) (sym c.fault_of_source.ensures ∙ same)
          (fault-read g.R.ByteReader.remaining g.R.ByteReader.failures
          c.args.source.now c.records.source c.next.new.self c.records.batch.items now.read
          c.next.result c.next.ensures.reads c.next.ensures.settled start past was c.in-Err.fault
          c.in-Err.is);
      memory = memory-met g.R.ByteReader.remaining g.R.ByteReader.failures
          c.args.source.now c.records.source c.next.new.self c.records.batch.items now.read
          c.next.result c.next.ensures.reads c.next.ensures.settled;
      full = λ e. absurd cc;
      room = λ going e. absurd cc;
      bounded = λ going e. absurd cc;
    }
