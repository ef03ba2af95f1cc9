-- Reading a source record by record.
use Rattle.std.proofs.Common.{◌≡◌, ℕ, Bool, List, [], ◌∷◌, ◌++◌, drop, Option, Some, None}
use Rattle.std.proofs.Common.{true, OnOk, Result, Ok, Err, refl, ap, sym, ◌∙◌, subst, append_assoc}
use Rattle.std.proofs.Common.{append-nil}
use Rattle.std.specs.Result.{is_ok}
use Rattle.din_trace.specs.Text.{Remaining}
use Rattle.din_trace.specs.Remaining.{Script, Fate, Open, Follows, first_answer, after_first}
use Rattle.din_trace.specs.Source.{HasLeft, IsSettled}
use Rattle.din_trace.specs.declared.record.DinRecord.{DinRecord}
use Rattle.din_trace.specs.declared.fault.TraceFault.{TraceFault}
use Rattle.din_trace.specs.declared.fault.TraceFault.TheVariants.{Bad, TooLong, Read, Memory}
use Rattle.din_trace.specs.declared.source.Source.{Source}
use Rattle.din_trace.proofs.Calls.{Answers, Calls, calls, no_calls}
use Rattle.din_trace.proofs.Scripts.{first_record, first_end, first_fault-is}
use Rattle.grid_run.specs.Faults.{GridMayAnswer, grid_fault_of}
use Rattle.grid_run.specs.Readings.{HasEnded, HasRead, HasReadBatch, HasStopped}
use Rattle.grid_run.specs.declared.fault.GridFault.{GridFault}
use Rattle.grid_run.specs.declared.fault.GridFault.TheVariants as fault

-- nothing was read yet
pub read-nothing : {R : Type 0} (remaining : R → Option (List ℕ)) (failures : R → ℕ)
    (start : Source R) → HasRead remaining failures start start []
read-nothing remaining failures start = record {
  given = [];
  fate = Open;
  went = no_calls remaining failures start;
  left = λ first last l is has. (l, refl, refl, subst (λ s. HasLeft start s l) is has);
}

module _ {R : Type 0} (remaining : R → Option (List ℕ)) (failures : R → ℕ)
    (start now next : Source R) (past : List DinRecord)
    (going : HasRead remaining failures start now past)
    (result : Result (Option DinRecord) TraceFault) (given : List ℕ) (fate : Fate)
    (all : Calls remaining failures start next going.given given going.fate fate)
    (reads : (before later : Script) (l : Remaining) → Follows fate given before later
    → HasLeft now before l → (result ≡ first_answer l) × HasLeft next later (after_first l)) where
  -- what was left before the last call, and what it answered
  before-last : (first last : Script) (l : Remaining) → Follows all.fate all.given first last
      → HasLeft start first l → (rest : Remaining) × (l.records ≡ past ++ rest.records)
      × (rest.fault ≡ l.fault) × (result ≡ first_answer rest)
      × HasLeft next last (after_first rest)
  before-last first last l is has =
      let mid = all.between first last is in
      let rest = going.left first mid.0 l mid.1 has in
      let after = reads mid.0 last rest.0 mid.2 rest.3 in
      (rest.0, rest.1, rest.2, after.0, after.1)

  -- one more record was read
  pub read-more : (r : DinRecord) → result ≡ Ok (Some r)
      → HasRead remaining failures start next (past ++ r ∷ [])
  read-more r was = record {
    given = all.given;
    fate = all.fate;
    went = all.went;
    left = λ first last l is has.
        let rest = before-last first last l is has in (
          after_first rest.0,
          rest.1 ∙ ap (λ rs. past ++ rs) (first_record rest.0 r (sym was ∙ rest.3))
              ∙ sym (append_assoc past (r ∷ []) (drop 1 rest.0.records)),
          rest.2,
          rest.4,
        );
  }

  -- at the end all records were read, and there is no fault
  pub read-end : result ≡ Ok None → (first last : Script) (l : Remaining)
      → Follows all.fate all.given first last → HasLeft start first l
      → (l.fault ≡ None) × (l.records ≡ past)
  read-end was first last l is has =
      let rest = before-last first last l is has in
      let none = first_end rest.0 (sym was ∙ rest.3) in (
        sym rest.2 ∙ none.1,
        rest.1 ∙ ap (λ rs. past ++ rs) none.0 ∙ append-nil past,
      )

  -- a fault is the one that was left
  pub read-fault : (f : TraceFault) → result ≡ Err f → (first last : Script) (l : Remaining)
      → Follows all.fate all.given first last → HasLeft start first l → l.fault ≡ Some f
  read-fault f was first last l is has =
      let rest = before-last first last l is has in
      sym rest.2 ∙ (first_fault-is rest.0 f (sym was ∙ rest.3)).1

-- a grid may answer the fault of its source
pub answers-fault : (left : Option TraceFault) (f : TraceFault) → left ≡ Some f
    → GridMayAnswer left (grid_fault_of f)
answers-fault left (Bad line why) is = is
answers-fault left TooLong is = is
answers-fault left Read is = is
answers-fault left Memory is = tt

-- one more call of the source, behind those that read a batch
module _ {R : Type 0} (remaining : R → Option (List ℕ)) (failures : R → ℕ)
    (old now next : Source R) (batch : List DinRecord)
    (going : (start : Source R) (past : List DinRecord)
    → HasRead remaining failures start old past
    → HasRead remaining failures start now (past ++ batch))
    (result : Result (Option DinRecord) TraceFault)
    (reads : Answers remaining failures now next result)
    (settled : IsSettled now → next ≡ now)
    (start : Source R) (past : List DinRecord)
    (was : HasRead remaining failures start old past) where
  -- all calls from the start on
  called : let read = going start past was in
      Calls remaining failures start next read.given reads.0 read.fate reads.1
  called = let read = going start past was in
      calls remaining failures start now next read.given reads.0 read.fate reads.1 read.went
      reads.2 settled

  -- want of memory may always be answered
  pub memory-met : HasStopped remaining failures start next fault.Memory
  memory-met = record {
    given = called.given;
    fate = called.fate;
    went = called.went;
    may = λ first last l is left. tt;
  }

  -- one more record was read
  pub record-read : (r : DinRecord) → result ≡ Ok (Some r)
      → HasRead remaining failures start next (past ++ (batch ++ r ∷ []))
  record-read r is = subst (HasRead remaining failures start next)
      (append_assoc past batch (r ∷ []))
      (read-more remaining failures start now next (past ++ batch) (going start past was) result
      reads.0 reads.1 called reads.3 r is)

  -- the end was met
  pub end-read : result ≡ Ok None → HasEnded remaining failures start next (past ++ batch)
  end-read none = record {
    given = called.given;
    fate = called.fate;
    went = called.went;
    all = λ first last l is left. read-end remaining failures start now next (past ++ batch)
        (going start past was) result reads.0 reads.1 called reads.3 none first last l is left;
  }

  -- a fault was met
  pub fault-read : (f : TraceFault) → result ≡ Err f
      → HasStopped remaining failures start next (grid_fault_of f)
  fault-read f bad = record {
    given = called.given;
    fate = called.fate;
    went = called.went;
    may = λ first last l is left. answers-fault l.fault f
        (read-fault remaining failures start now next (past ++ batch) (going start past was) result
        reads.0 reads.1 called reads.3 f bad first last l is left);
  }

-- what holds of a call that succeeds holds if it did
pub when-ok : {T E P : Type 0} (r : Result T E) → is_ok r ≡ true → OnOk r P → P
when-ok (Ok value) e p = p
when-ok (Err why) e p = absurd cc

-- what holds anyway holds if a call succeeds
pub on-any : {T E P : Type 0} (r : Result T E) → P → OnOk r P
on-any (Ok value) p = p
on-any (Err why) p = tt

module _ {R : Type 0} (remaining : R → Option (List ℕ)) (failures : R → ℕ) where
  -- want of memory may be answered, whatever was read
  pub wanting : (old new : Source R) (batch : List DinRecord) → ((start : Source R)
      (past : List DinRecord) → HasRead remaining failures start old past
      → HasStopped remaining failures start new fault.Memory)
      → HasReadBatch remaining failures old new batch (Err fault.Memory)
  wanting old new batch memory = record {
    more = λ start past was e. absurd cc;
    ended = λ start past was e. absurd cc;
    failed = λ start past was why e. let same : fault.Memory ≡ why = cc in
        subst (HasStopped remaining failures start new) same (memory start past was);
    memory = memory;
    full = λ e. absurd cc;
    room = λ going e. absurd cc;
    bounded = λ going e. absurd cc;
  }

  -- so it is before a batch is read
  pub wanting-before : (source : Source R) (batch : List DinRecord)
      → HasReadBatch remaining failures source source batch (Err fault.Memory)
  wanting-before source batch = wanting source source batch (λ start past was. record {
    given = was.given;
    fate = was.fate;
    went = was.went;
    may = λ first last l is left. tt;
  })

  -- and beside
  pub wanting-beside : (old new : Source R) (batch : List DinRecord)
      (answer : Result Bool GridFault) → HasReadBatch remaining failures old new batch answer
      → HasReadBatch remaining failures old new batch (Err fault.Memory)
  wanting-beside old new batch answer read = wanting old new batch read.memory
