-- A line that is not faulty under a bound on addresses has the same form under a greater bound.
use Rattle.std.proofs.Common.{◌≡◌, ℕ, ◌+◌, ◌≤◌, false, List, [], ◌∷◌, length, take, None}
use Rattle.std.proofs.Common.{refl, sym, inl, inr, arith}
use Rattle.std.specs.Prelude.{nat_le}
use Rattle.std.proofs.lemmas.Bool.{cases_Bool}
use Rattle.din_trace.specs.declared.fault.TraceFault.TheVariants.{TooLong}
use Rattle.din_trace.specs.Line.{Form, Blank, Din, Faulty, HasForm, form}
use Rattle.din_trace.specs.Text.{lines, ended_lines, line_records, records, first_fault, fault}
use Rattle.din_trace.specs.Text.{Remaining, form_left, lines_left, text_left}
use Rattle.din_trace.proofs.Forms.{has_form, form_is}
use Rattle.din_trace.proofs.Cuts.{others_none, form_left-none, first_fault-some}

module _ (small great : ℕ) (le : small ≤ great) where
  -- a line that is not faulty keeps its form
  form-wider : (line : List ℕ) (f : Form) → form small line ≡ f → HasForm small line f
      → (number : ℕ) (others : Remaining) → (form_left f number others).fault ≡ None
      → form great line ≡ f
  form-wider line Blank is h number others none = sym (form_is great line Blank h)
  form-wider line (Din r) is (digit, digits, rest, a, n, fits, t, e) number others none =
      sym (form_is great line (Din r) (digit, digits, rest, a, n, omega arith, t, e))
  form-wider line (Faulty why) is h number others none = absurd cc

  lines-wider : (number : ℕ) (ls : List (List ℕ)) → first_fault small number ls None ≡ None
      → (first_fault great number ls None ≡ None) × (line_records great ls ≡ line_records small ls)
  lines-wider number [] none = (refl, refl)
  lines-wider number (line ∷ ls) none =
      let same : form great line ≡ form small line =
      form-wider line (form small line) refl (has_form small line) number
      (lines_left small (number + 1) ls None) none in
      let rest =
      lines-wider (number + 1) ls
      (others_none (form small line) number (lines_left small (number + 1) ls None) none) in
      let now : (form_left (form great line) number (lines_left great (number + 1) ls None)).fault
      ≡ None =
      rw same (form_left-none (form small line) number (lines_left small (number + 1) ls None)
      (lines_left great (number + 1) ls None) none rest.0) in
      (now, rw (same, rest.1) refl)

  pub wider : (text : List ℕ) (limit : ℕ) → fault small text limit ≡ None
      → (fault great text limit ≡ None) × (records great text ≡ records small text)
  wider text limit none =
      let is : (text_left small 1 text limit false).fault ≡ None = none in
      let now : ((text_left great 1 text limit false).fault ≡ None)
      × (records great text ≡ records small text) =
      elim (cases_Bool (nat_le (length text) limit)) [
        | inl e ↦ rw e (lines-wider 1 (lines text) (rw e at is))
        | inr e ↦ absurd
            (first_fault-some small TooLong 1 (ended_lines (take limit text)) (rw e at is))
      ] in
      now
