-- What is left of a whole text.
use Rattle.std.proofs.Common.{◌≡◌, ℕ, ◌+◌, ◌<◌, Bool, true, false, List, [], ◌∷◌, ◌++◌, length}
use Rattle.std.proofs.Common.{take, Option, Some, None, refl, ap, ◌∙◌, inl, inr}
use Rattle.std.specs.Prelude.{nat_le, if◌then◌else◌}
use Rattle.std.proofs.lemmas.Bool.{cases_Bool, le-leb, leb-false}
use Rattle.din_trace.specs.declared.fault.TraceFault.{TraceFault}
use Rattle.din_trace.specs.declared.fault.TraceFault.TheVariants.{Bad, TooLong, Read, Memory}
use Rattle.din_trace.specs.declared.fault.Why.{Why}
use Rattle.din_trace.specs.Laws.{LeavesText}
use Rattle.din_trace.specs.Line.{Form, Blank, Din, Faulty, form}
use Rattle.din_trace.specs.Text.{lines, ended_lines, form_records, line_records, records}
use Rattle.din_trace.specs.Text.{Remaining, form_left, lines_left, text_left, first_fault, fault}
use Rattle.din_trace.proofs.Cuts.{others_none, first_fault-some}

form_left-records : (f : Form) (number : ℕ) (others : Remaining)
    → (form_left f number others).fault ≡ None
    → (form_left f number others).records ≡ form_records f ++ others.records
form_left-records Blank number others none = refl
form_left-records (Din r) number others none = refl
form_left-records (Faulty why) number others none = absurd cc

lines_left-records : (bound number : ℕ) (ls : List (List ℕ))
    → first_fault bound number ls None ≡ None
    → (lines_left bound number ls None).records ≡ line_records bound ls
lines_left-records bound number [] none = refl
lines_left-records bound number (line ∷ ls) none =
    let others : Remaining = lines_left bound (number + 1) ls None in
    form_left-records (form bound line) number others none
    ∙ ap (λ rs. form_records (form bound line) ++ rs)
    (lines_left-records bound (number + 1) ls
    (others_none (form bound line) number others none))

-- a fault that is not that of a line comes from what follows the lines
module _ (f : TraceFault) (no_line : (number : ℕ) (why : Why) → Bad number why ≡ f → ⊥) where
  fault_behind : (of : Form) (number : ℕ) (others : Remaining)
      → (form_left of number others).fault ≡ Some f → others.fault ≡ Some f
  fault_behind Blank number others e = e
  fault_behind (Din r) number others e = e
  fault_behind (Faulty why) number others e = absurd (no_line number why cc)

  first_fault-behind : (bound number : ℕ) (ls : List (List ℕ)) (otherwise : Option TraceFault)
      → first_fault bound number ls otherwise ≡ Some f → otherwise ≡ Some f
  first_fault-behind bound number [] otherwise e = e
  first_fault-behind bound number (line ∷ ls) otherwise e =
      first_fault-behind bound (number + 1) ls otherwise
      (fault_behind (form bound line) number (lines_left bound (number + 1) ls otherwise) e)

module _ (bound : ℕ) (text : List ℕ) (limit : ℕ) where
  pub text_left-records : fault bound text limit ≡ None
      → (text_left bound 1 text limit false).records ≡ records bound text
  text_left-records none =
      let is : (text_left bound 1 text limit false).fault ≡ None = none in
      elim (cases_Bool (nat_le (length text) limit)) [
        | inl e ↦ rw e (lines_left-records bound 1 (lines text) (rw e at is))
        | inr e ↦ absurd
            (first_fault-some bound TooLong 1 (ended_lines (take limit text)) (rw e at is))
      ]

  -- such a fault is the one that follows the lines of the text
  behind_lines : (fails : Bool) (f : TraceFault)
      → ((number : ℕ) (why : Why) → Bad number why ≡ f → ⊥)
      → (text_left bound 1 text limit fails).fault ≡ Some f
      → (if nat_le (length text) limit then (if fails then Some Read else None) else Some TooLong)
      ≡ Some f
  behind_lines fails f no_line is =
      elim (cases_Bool (nat_le (length text) limit)) [
        | inl e ↦ rw e
            (elim fails as (λ b. (text_left bound 1 text limit b).fault ≡ Some f
            → (if b then Some Read else None) ≡ Some f) [
              | true ↦ λ h. first_fault-behind f no_line bound 1 (ended_lines text) (Some Read)
                  (rw e at h)
              | false ↦ λ h. first_fault-behind f no_line bound 1 (lines text) None (rw e at h)
            ] is)
        | inr e ↦ rw e
            (first_fault-behind f no_line bound 1 (ended_lines (take limit text)) (Some TooLong)
            (rw e at is))
      ]

  fails_never_none : (text_left bound 1 text limit true).fault ≡ None → ⊥
  fails_never_none is =
      elim (cases_Bool (nat_le (length text) limit)) [
        | inl e ↦ first_fault-some bound Read 1 (ended_lines text) (rw e at is)
        | inr e ↦ first_fault-some bound TooLong 1 (ended_lines (take limit text)) (rw e at is)
      ]

  never_read : (text_left bound 1 text limit false).fault ≡ Some Read → ⊥
  never_read is =
      let behind = behind_lines false Read (λ number why e. cc) is in
      elim (cases_Bool (nat_le (length text) limit)) [
        | inl e ↦ let h =
            rw e at behind in cc
        | inr e ↦ let h = rw e at behind in cc
      ]

  only_too_long : (fails : Bool) → (text_left bound 1 text limit fails).fault ≡ Some TooLong
      → limit < length text
  only_too_long fails is =
      let behind = behind_lines fails TooLong (λ number why e. cc) is in
      elim (cases_Bool (nat_le (length text) limit)) [
        | inl e ↦ absurd
            (elim fails as (λ b. (if b then Some Read else None) ≡ Some TooLong
            → ⊥) [ true ↦ λ h. cc | false ↦ λ h. cc ] (rw e at behind))
        | inr e ↦ leb-false (length text) limit e
      ]

  never_memory : (fails : Bool) → (text_left bound 1 text limit fails).fault ≡ Some Memory → ⊥
  never_memory fails is =
      let behind = behind_lines fails Memory (λ number why e. cc) is in
      elim (cases_Bool (nat_le (length text) limit)) [
        | inl e ↦ elim fails as (λ b. (if b then Some Read else None) ≡ Some Memory
            → ⊥) [ true ↦ λ h. cc | false ↦ λ h. cc ] (rw e at behind)
        | inr e ↦ let h = rw e at behind in cc
      ]

  pub leaves_text : LeavesText bound text limit
  leaves_text = record {
    fault_is = refl;
    records_are = text_left-records;
    failed_is = λ h. rw (le-leb (length text) limit h) refl;
    fails = fails_never_none;
    read = never_read;
    too_long = only_too_long;
    memory = never_memory;
  }
