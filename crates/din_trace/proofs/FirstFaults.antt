-- What is left of a text stops at its first faulty line.
use Rattle.std.proofs.Common.{◌≡◌, ◌≢◌, ℕ, ◌+◌, List, [], ◌∷◌, ◌++◌}
use Rattle.std.proofs.Common.{length, Option, Some, refl, ap, ◌∙◌, arith}
use Rattle.std.specs.List.{All}
use Rattle.std.proofs.lemmas.Bool.{le-leb, lt-leb}
use Rattle.std.proofs.lemmas.List.Elements.{All-head, All-tail}
use Rattle.din_trace.specs.declared.fault.TraceFault.{TraceFault}
use Rattle.din_trace.specs.declared.fault.TraceFault.TheVariants.{Bad}
use Rattle.din_trace.specs.declared.fault.Why.{Why}
use Rattle.din_trace.specs.Laws.{HasFirstFault, IsGood, StopsAtFirstFault}
use Rattle.din_trace.specs.Line.{Form, Blank, Din, Faulty, form}
use Rattle.din_trace.specs.Text.{Remaining, form_left, form_records, line_records, lines_left}

module _ (bound : ℕ) (otherwise : Option TraceFault) where
  -- from a line that is not faulty on, its record is left, if it holds one, and then the others
  good-left : (f : Form) (number : ℕ) (others : Remaining) → ((why : Why) → f ≢ Faulty why)
      → form_left f number others
      ≡ record { records = form_records f ++ others.records; fault = others.fault }
  good-left Blank number others good = refl
  good-left (Din r) number others good = refl
  good-left (Faulty why) number others good = absurd (good why refl)

  -- the same, if this is left of the others
  good-then : (f : Form) (number : ℕ) (others more : Remaining) → ((why : Why) → f ≢ Faulty why)
      → others ≡ more
      → form_left f number others
      ≡ record { records = form_records f ++ more.records; fault = more.fault }
  good-then f number others more good is = good-left f number others good
      ∙ ap (λ (l : Remaining). record { records = form_records f ++ l.records; fault = l.fault }) is

  -- the first faulty line has the fault, with its number
  first-faulty : (number : ℕ) (before after : List (List ℕ)) (line : List ℕ) (why : Why)
      → All (IsGood bound) before → form bound line ≡ Faulty why
      → lines_left bound number (before ++ line ∷ after) otherwise
      ≡ record {
        records = line_records bound before;
        fault = Some (Bad (length before + number) why);
      }
  first-faulty number [] after line why good is =
      let others : Remaining = lines_left bound (number + 1) after otherwise in
      let zero : number ≡ 0 + number = omega arith in
      ap (λ (f : Form). form_left f number others) is
      ∙ ap (λ n. record { records = []; fault = Some (Bad n why) }) zero
  first-faulty number (first ∷ before) after line why good is =
      let others : Remaining =
      lines_left bound (number + 1) (before ++ line ∷ after) otherwise in
      let same : length before + (number + 1) ≡ length (first ∷ before) + number = omega arith in
      good-then (form bound first) number others _ (All-head (IsGood bound) first before good)
      (first-faulty (number + 1) before after line why (All-tail (IsGood bound) first before good)
      is)
      ∙ ap (λ n. record {
        records = line_records bound (first ∷ before);
        fault = Some (Bad n why);
      }) same

  -- without a faulty line, the fault is the other one
  none-faulty : (number : ℕ) (ls : List (List ℕ)) → All (IsGood bound) ls
      → lines_left bound number ls otherwise
      ≡ record { records = line_records bound ls; fault = otherwise }
  none-faulty number [] good = refl
  none-faulty number (line ∷ ls) good =
      good-then (form bound line) number (lines_left bound (number + 1) ls otherwise) _
      (All-head (IsGood bound) line ls good)
      (none-faulty (number + 1) ls (All-tail (IsGood bound) line ls good))

  -- so what is left of lines stops at the first faulty one
  stops : (judged : List (List ℕ)) (left : Remaining) → left ≡ lines_left bound 1 judged otherwise
      → StopsAtFirstFault bound judged otherwise left
  stops judged left is = record {
    first = λ before after line why are good faulty.
        is ∙ ap (λ (ls : List (List ℕ)). lines_left bound 1 ls otherwise) are
        ∙ first-faulty 1 before after line why good faulty;
    none = λ good. is ∙ none-faulty 1 judged good;
  }

pub first_fault_is : (bound : ℕ) (text : List ℕ) (limit : ℕ) → HasFirstFault bound text limit
first_fault_is bound text limit = record {
  ended = λ short. stops bound _ _ _ (rw (le-leb (length text) limit short) refl);
  failed = λ short. stops bound _ _ _ (rw (le-leb (length text) limit short) refl);
  too_long = λ fails long. stops bound _ _ _ (rw (lt-leb (length text) limit long) refl);
}
