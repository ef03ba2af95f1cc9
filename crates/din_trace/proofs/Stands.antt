-- Which bytes a line reader has read after one more byte.
use Rattle.std.proofs.Common.{◌≡◌, ◌≢◌, ℕ, ◌+◌, List, [], ◌∷◌, ◌++◌, Option, None, Ok, refl}
use Rattle.std.proofs.Common.{sym, ap, ◌∙◌, append_assoc, length-append, arith}
use Rattle.std.proofs.lemmas.Bool.{ne_eqb}
use Rattle.std.proofs.lemmas.List.{append-nil}
use Rattle.din_trace.specs.declared.record.DinRecord.{DinRecord}
use Rattle.din_trace.specs.declared.line_reader.LineReader.{LineReader}
use Rattle.din_trace.specs.declared.line.LineSoFar.TheVariants as so_far
use Rattle.din_trace.specs.Line.{Form, Blank, Din, Faulty, form}
use Rattle.din_trace.specs.LineSoFar.{IsNext, form_from, form_answer, begun}
use Rattle.din_trace.specs.Line.{ADDRESS_MAX}
use Rattle.din_trace.specs.Text.{ended_lines, open_line, form_result}
use Rattle.din_trace.specs.Standing.{Stands}
use Rattle.din_trace.proofs.Cuts.{cut-ended, cut-longer, IsSound, first_fault-append}

pub stands-longer : (old new : LineReader) (text : List ℕ) (byte : ℕ) → byte ≢ 10 → new.fault ≡ None
    → new.line ≡ old.line
    → IsNext old.so_far byte new.so_far → begun new.so_far ≡ 1
    → Stands old text → Stands new (text ++ byte ∷ [])
stands-longer old new text byte other unfaulted line next begun_is s =
    let grown = cut-longer text byte (ne_eqb byte 10 other) in
    rw grown (record {
      sound = s.sound;
      no_fault = unfaulted;
      number = line ∙ s.number;
      empty = λ h. absurd (omega arith);
      begins = λ _. simp length-append (omega arith);
      goes_on = λ rest. rw append_assoc (s.goes_on (byte ∷ rest) ∙ next rest);
    })

-- the answer at the end of a line that is not faulty
pub answered : (f : Form) (number : ℕ) (found : Option DinRecord) → form_answer f ≡ Ok found
    → (form_result number f ≡ Ok found) × IsSound f
answered Blank number found e = (cc, tt)
answered (Din r) number found e = (cc, tt)
answered (Faulty why) number found e = absurd cc

-- the form of the line so far is the one that the reader gives it if it ends here
pub stands-form : (r : LineReader) (text : List ℕ) → Stands r text
    → form ADDRESS_MAX (open_line text) ≡ form_from ADDRESS_MAX r.so_far []
stands-form r text s = ap (form ADDRESS_MAX) (sym (append-nil (open_line text))) ∙ s.goes_on []

pub stands-ended : (old new : LineReader) (text : List ℕ) → new.fault ≡ None
    → new.line ≡ old.line + 1 → new.so_far ≡ so_far.Empty
    → IsSound (form ADDRESS_MAX (open_line text)) → Stands old text
    → Stands new (text ++ 10 ∷ [])
stands-ended old new text unfaulted line empty fine s =
    rw cut-ended (record {
      sound = first_fault-append ADDRESS_MAX 1 (ended_lines text) (open_line text) s.sound fine;
      no_fault = unfaulted;
      number = simp length-append (omega (arith, s.number, line));
      empty = λ _. refl;
      begins = rw empty (λ h. absurd (omega arith));
      goes_on = λ rest. rw empty refl;
    })
