-- A plain line that is passed over.
use Rattle.std.proofs.Common.{◌≡◌, ℕ, suc, ◌+◌, ◌-◌, ◌≤◌, List, [], ◌∷◌, ◌++◌, length, drop, refl}
use Rattle.std.proofs.Common.{sym, ap, ◌∙◌, arith, append_assoc, length-append}
use Rattle.std.specs.Prelude.{Some, Ok}
use Rattle.din_trace.specs.Line.{Din, ADDRESS_MAX, Form, form}
use Rattle.din_trace.specs.Plain.{BeginsWithLine, HasNoLf}
use Rattle.std.proofs.lemmas.List.{append-nil}
use Rattle.din_trace.specs.declared.record.DinRecord.{DinRecord}
use Rattle.din_trace.specs.declared.line_reader.LineReader.{LineReader}
use Rattle.din_trace.specs.LineSoFar.{begun}
use Rattle.din_trace.specs.Text.{CutText, cut, open_line, Remaining, form_left, text_left}
use Rattle.din_trace.specs.Remaining.{Script, first_answer, after_first}
use Rattle.din_trace.specs.Standing.{Stands}
use Rattle.din_trace.specs.Backlog.{ReadingLeft}
use Rattle.din_trace.proofs.Cuts.{cut-ended, cut-longer, first_fault-append}
use Rattle.din_trace.proofs.Lefts.{text_left-line}

-- bytes without LF make the line longer
cut-run : (text run : List ℕ) → HasNoLf run
    → cut (text ++ run) ≡ record { ended = (cut text).ended; rest = (cut text).rest ++ run }
cut-run text [] h = rw (append-nil text, append-nil (cut text).rest) refl
cut-run text (byte ∷ run) h =
    ap cut (sym (append_assoc {A = ℕ} text (byte ∷ []) run)) ∙ cut-run (text ++ byte ∷ []) run h.1
    ∙ rw (cut-longer text byte h.0)
    (ap (λ (more : List ℕ). record { ended = (cut text).ended; rest = more })
    (append_assoc {A = ℕ} (cut text).rest (byte ∷ []) run))

grown : (text line : List ℕ) → (cut text).rest ≡ []
    → HasNoLf line
    → cut ((text ++ line) ++ 10 ∷ []) ≡ record { ended = (cut text).ended ++ line ∷ []; rest = [] }
grown text line at_start no_lf = cut-ended (text ++ line)
    ∙ rw (cut-run text line no_lf, at_start) refl

-- the line reader after it
pub record Passed (old new : LineReader) (count : ℕ) : Type 0 where
  pub empty : begun old.so_far ≡ 0
  pub line : new.line ≡ old.line + 1
  pub bytes : new.bytes ≡ old.bytes + count
  pub so_far : new.so_far ≡ old.so_far
  pub fault : new.fault ≡ old.fault

stands-past : (old new : LineReader) (count : ℕ) (text line : List ℕ) (r : DinRecord)
    → Passed old new count → HasNoLf line
    → form ADDRESS_MAX line ≡ Din r → Stands old text → Stands new ((text ++ line) ++ 10 ∷ [])
stands-past old new count text line r p no_lf holds s =
    let at_start = s.empty p.empty in
    rw (grown text line at_start no_lf) (record {
      sound = first_fault-append ADDRESS_MAX 1 (cut text).ended line s.sound (rw holds tt);
      no_fault = p.fault ∙ s.no_fault;
      number = simp length-append (omega (arith, s.number, p.line));
      empty = λ _. refl;
      begins = rw p.so_far (λ h. absurd (omega (arith, h, p.empty)));
      goes_on = λ rest. rw p.so_far (rw at_start at (s.goes_on rest));
    })

pub after-plain : (old new : LineReader) (held : List ℕ) (r : DinRecord) (count limit : ℕ)
    (script : Script) (l : Remaining)
    → BeginsWithLine held r count → Passed old new count → old.bytes + count ≤ limit
    → ReadingLeft old held limit script l
    → (Ok (Some r) ≡ first_answer l)
    × ReadingLeft new (drop count held) limit script (after_first l)
after-plain old new held r count limit script l b p below (text, s, is) =
    let at_start = s.empty p.empty in
    let others : Remaining =
    text_left ADDRESS_MAX (old.line + 1) (drop count held ++ script.given)
    (limit - new.bytes) script.fails in
    let room : 0 + (limit - old.bytes) ≡ length b.line + suc (limit - new.bytes) =
    omega (arith, b.counted, p.bytes, below) in
    let cut_off : text_left ADDRESS_MAX old.line ((b.line ++ 10 ∷ drop count held) ++ script.given)
    (0 + (limit - old.bytes)) script.fails
    ≡ form_left (form ADDRESS_MAX b.line) old.line others =
    rw (room, append_assoc {A = ℕ} b.line (10 ∷ drop count held) script.given)
    (text_left-line ADDRESS_MAX old.line b.line (cut-run [] b.line b.one_line)
    (drop count held ++ script.given) (limit - new.bytes) script.fails) in
    let first : text_left ADDRESS_MAX old.line (held ++ script.given)
    (0 + (limit - old.bytes)) script.fails ≡ form_left (Din r) old.line others =
    ap (λ (bytes : List ℕ). text_left ADDRESS_MAX old.line (bytes ++ script.given)
    (0 + (limit - old.bytes)) script.fails) b.whole
    ∙ cut_off ∙ ap (λ (f : Form). form_left f old.line others) b.holds in
    let all : l ≡ form_left (Din r) old.line others = (rw at_start at is) ∙ first in
    let ended : open_line ((text ++ b.line) ++ 10 ∷ []) ≡ [] =
    ap (λ (c : CutText). c.rest) (grown text b.line at_start b.one_line) in
    let after : ReadingLeft new (drop count held) limit script others = (
      (text ++ b.line) ++ 10 ∷ [],
      stands-past old new count text b.line r p b.one_line b.holds s,
      rw
          (ended, p.line) (let none : 0 + (limit - new.bytes) ≡ limit - new.bytes =
          omega arith in rw none refl),
    ) in
    rw all (refl, after)
