-- What a run over a reader answers, if the bytes of the reader are known.
use Rattle.std.proofs.Common.{◌≡◌, ℕ, ◌<◌, true, false, List, [], ◌++◌, length}
use Rattle.std.proofs.Common.{Option, Some, None, refl, ap, sym, ◌∙◌, subst, inl, inr, arith}
use Rattle.std.proofs.Common.{length-append}
use Rattle.std.proofs.lemmas.Bool.{cases_Bool, leb-false, leb-true, lt-leb}
use Rattle.std.proofs.lemmas.List.{take-append-le, append-nil}
use Rattle.std.specs.Prelude.{nat_le}
use Rattle.din_trace.specs.declared.fault.TraceFault.{TraceFault}
use Rattle.din_trace.specs.declared.record.DinRecord.{DinRecord}
use Rattle.din_trace.specs.Faults.{FailedBehind, GaveAll, IsFaultOf}
use Rattle.din_trace.specs.Line.{ADDRESS_MAX}
use Rattle.din_trace.specs.Text.{records, fault, Remaining, text_left}
use Rattle.din_trace.specs.Remaining.{Script, Fate, Open, Ended, Failed, Follows, FateIs}
use Rattle.din_trace.proofs.Texts.{text_left-records, leaves_text}

-- of a text that is too long, only the first bytes past the limit matter
text_left-front : (given rest : List ℕ) (limit : ℕ) → limit < length given
    → text_left ADDRESS_MAX 1 (given ++ rest) limit false ≡ text_left ADDRESS_MAX 1 given limit true
text_left-front given rest limit long =
    let longer : limit < length (given ++ rest) = simp length-append (omega arith) in
    rw (
      lt-leb (length (given ++ rest)) limit longer,
      lt-leb (length given) limit long,
      take-append-le limit given rest (omega arith),
    ) refl

module _ {R : Type 0} (remaining : R → Option (List ℕ)) (failures : R → ℕ) (reader last : R)
    (text : List ℕ) (limit : ℕ) where
  -- this may be left of a reader that will give the text
  pub record MayBeLeft (l : Remaining) : Type 0 where
    pub no_fault : l.fault ≡ None
        → (fault ADDRESS_MAX text limit ≡ None) × (l.records ≡ records ADDRESS_MAX text)
    pub some_fault : (met : TraceFault) → l.fault ≡ Some met
        → IsFaultOf remaining failures reader text limit met

  whole : MayBeLeft (text_left ADDRESS_MAX 1 text limit false)
  whole = record {
    no_fault = λ none. (none, text_left-records ADDRESS_MAX text limit none);
    some_fault = λ met some. inl some;
  }

  front : (given : List ℕ) → FailedBehind remaining failures reader text given
      → MayBeLeft (text_left ADDRESS_MAX 1 given limit true)
  front given failed =
      let law = leaves_text ADDRESS_MAX given limit in
      record {
        no_fault = λ none. absurd (law.fails none);
        some_fault = λ met some. elim (cases_Bool (nat_le (length given) limit)) [
          | inl e ↦ let short = leb-true (length given) limit e in
              inr (given, failed, short, sym (law.failed_is short) ∙ some)
          | inr e ↦
              let same =
              text_left-front given failed.rest limit (leb-false (length given) limit e) in
              let of_text = subst (λ t. (text_left ADDRESS_MAX 1 t limit false).fault ≡ Some met)
              (sym failed.whole) (ap (λ (l : Remaining). l.fault) same ∙ some) in
              inl of_text
        ];
      }

  -- a script that such a reader may follow, and what is left under it
  pub script_of_told : (fate : Fate) (given : List ℕ) (new : Option (List ℕ))
      → remaining last ≡ new
      → FateIs fate (Some text) given new (failures reader) (failures last)
      → (before later : Script) × Follows fate given before later
      × MayBeLeft (text_left ADDRESS_MAX 1 before.given limit before.fails)
  script_of_told Open given None told is = absurd is.0
  script_of_told Open given (Some rest) told is = (
    record { given = text; fails = false },
    record { given = rest; fails = false },
    ap (λ (bytes : List ℕ). record { given = bytes; fails = false }) is.0,
    whole,
  )
  script_of_told Ended given None told is = absurd is.0
  script_of_told Ended given (Some rest) told is = (
    record { given = text; fails = false },
    record { given = []; fails = false },
    ap (λ (bytes : List ℕ). record { given = bytes; fails = false })
        (rw (is.1, append-nil given) at is.0),
    whole,
  )
  script_of_told Failed given None told is = absurd is.0
  script_of_told Failed given (Some rest) told is = (
    record { given = given; fails = true },
    record { given = []; fails = false },
    refl,
    front given (record { rest = rest; whole = is.0; last = last; told = told; failed = is.1 }),
  )

-- if a property holds for the records that are left, whatever the reader did, and no fault is left,
-- the reader gave a text up to its end, and the property holds for the records of that text
module _ {R : Type 0} (remaining : R → Option (List ℕ)) (failures : R → ℕ) (reader last : R)
    (limit : ℕ) (P : List DinRecord → Type 0) where
  abbrev LeavesGood : Script → Type 0
  LeavesGood script =
      let l = text_left ADDRESS_MAX 1 script.given limit script.fails in
      (l.fault ≡ None) × P l.records

  of-text : (text : List ℕ) → LeavesGood (record { given = text; fails = false })
      → (fault ADDRESS_MAX text limit ≡ None) × P (records ADDRESS_MAX text)
  of-text text good =
      let law = leaves_text ADDRESS_MAX text limit in
      let none = sym law.fault_is ∙ good.0 in (none, subst P (law.records_are none) good.1)

  -- some fault is left if the reader fails
  no_failure : {A : Type 0} (given : List ℕ) → LeavesGood (record { given = given; fails = true })
      → A
  no_failure given good = absurd ((leaves_text ADDRESS_MAX given limit).fails good.0)

  pub of-text-given : (fate : Fate) (given : List ℕ)
      → FateIs fate (remaining reader) given (remaining last) (failures reader) (failures last)
      → ((before later : Script) → Follows fate given before later → LeavesGood before)
      → (text : List ℕ) × GaveAll remaining failures reader text
      × (fault ADDRESS_MAX text limit ≡ None) × P (records ADDRESS_MAX text)
  of-text-given Open given is left =
      no_failure (given ++ []) (left _ (record { given = []; fails = true }) refl)
  of-text-given Ended given is left =
      let end : Script = record { given = []; fails = false } in
      let good = of-text given (left (record { given = given; fails = false }) end refl) in
      let all : GaveAll remaining failures reader given =
      record { last = last; gave = is.0; ended = is.1; sound = is.2 } in
      (given, all, good.0, good.1)
  of-text-given Failed given is left =
      no_failure given (left _ (record { given = []; fails = false }) refl)
