-- What is left after one more byte.
use Rattle.std.proofs.Common.{◌≡◌, ◌≢◌, ℕ, suc, ◌+◌, ◌-◌, ◌<◌, ◌≤◌, true, false, List, [], ◌∷◌}
use Rattle.std.proofs.Common.{◌++◌, length, Option, Some, None, Result, Ok, Err, refl, ap, ◌∙◌}
use Rattle.std.proofs.Common.{arith, inl, inr, length-append}
use Rattle.std.specs.Prelude.{OnOk}
use Rattle.std.proofs.Common.{take, drop, get_or}
use Rattle.std.proofs.lemmas.Bool.{cases_eq, ne_eqb}
use Rattle.std.proofs.lemmas.List.{drop_more}
use Rattle.din_trace.specs.declared.fault.Why.{Why}
use Rattle.din_trace.specs.declared.backlog.State.{State}
use Rattle.din_trace.specs.declared.backlog.State.TheVariants as states
use Rattle.din_trace.specs.State.{is_sound}
use Rattle.din_trace.specs.declared.record.DinRecord.{DinRecord}
use Rattle.din_trace.specs.declared.fault.TraceFault.{TraceFault}
use Rattle.din_trace.specs.declared.fault.TraceFault.TheVariants.{TooLong, Read}
use Rattle.din_trace.specs.declared.line_reader.LineReader.{LineReader}
use Rattle.din_trace.specs.Line.{Form, Blank, Din, Faulty, form}
use Rattle.din_trace.specs.Line.{ADDRESS_MAX}
use Rattle.din_trace.specs.Text.{CutText, cut, open_line, last_line, line_result, form_result}
use Rattle.din_trace.specs.Text.{Remaining, form_left, lines_left, text_left}
use Rattle.din_trace.specs.Remaining.{Script, first_answer, after_first}
use Rattle.din_trace.specs.Standing.{Stands}
use Rattle.din_trace.specs.Backlog.{ReadingLeft, HasLeftIn}
use Rattle.din_trace.proofs.Cuts.{cut-ended, cut-longer, open_line-open}
use Rattle.din_trace.proofs.Lefts.{text_left-longer, text_left-line, text_left-past}
use Rattle.din_trace.proofs.Lefts.{text_left-failed, text_left-ended}

-- what is left after the answer of the line reader to one byte
abbrev pub AfterByte : LineReader → List ℕ → ℕ → Script → Remaining
    → Result (Option DinRecord) TraceFault → Type 0
AfterByte reader held limit script l (Ok None) = ReadingLeft reader held limit script l
AfterByte reader held limit script l (Ok (Some r)) = (first_answer l ≡ Ok (Some r))
    × ReadingLeft reader held limit script (after_first l)
AfterByte reader held limit script l (Err f) = l ≡ record { records = []; fault = Some f }

after-line : (reader : LineReader) (held : List ℕ) (limit : ℕ) (script : Script)
    (l others : Remaining)
    (f : Form) (number : ℕ) (result : Result (Option DinRecord) TraceFault)
    → l ≡ form_left f number others → result ≡ form_result number f
    → OnOk result (ReadingLeft reader held limit script others)
    → AfterByte reader held limit script l result
after-line reader held limit script l others Blank number result is answer more =
    let after : ReadingLeft reader held limit script others = rw answer at more in
    rw (answer, is) after
after-line reader held limit script l others (Din r) number result is answer more =
    let after : ReadingLeft reader held limit script others = rw answer at more in
    rw (answer, is) (refl, after)
after-line reader held limit script l others (Faulty why) number result is answer more =
    rw (answer, is) refl

OnOk-map : (result : Result (Option DinRecord) TraceFault) (P Q : Type 0) → (P → Q) → OnOk result P
    → OnOk result Q
OnOk-map (Ok found) P Q f p = f p
OnOk-map (Err e) P Q f p = tt

-- after an LF there is one line more, and nothing of the next line was read
ended-left : (reader : LineReader) (text held : List ℕ) (limit number : ℕ) (script : Script)
    → number ≡ length (cut text).ended + 1 → Stands reader (text ++ 10 ∷ [])
    → ReadingLeft reader held limit script
    (text_left ADDRESS_MAX (number + 1) (held ++ script.given)
    (limit - reader.bytes) script.fails)
ended-left reader text held limit number script is s =
    let grown = cut-ended text in
    let at_start : open_line (text ++ 10 ∷ []) ≡ [] = ap (λ (c : CutText). c.rest) grown in
    let count : length (cut (text ++ 10 ∷ [])).ended ≡ length (cut text).ended + 1 =
    ap (λ (c : CutText). length c.ended) grown ∙ simp length-append (omega arith) in
    let line : reader.line ≡ number + 1 = omega (arith, s.number, count, is) in (
      text ++ 10 ∷ [],
      s,
      rw (at_start, line) (let none : 0 + (limit - reader.bytes)
          ≡ limit - reader.bytes = omega arith in rw none refl),
    )

module _ (old new : LineReader) (held : List ℕ) (limit : ℕ)
    (result : Result (Option DinRecord) TraceFault) (below : old.bytes < limit) (counted : new.bytes
    ≡ old.bytes + 1) where
  after-other : (byte : ℕ) → byte ≢ 10
      → ((text : List ℕ) → Stands old text → (result ≡ Ok None) × Stands new (text ++ byte ∷ []))
      → (script : Script) (l : Remaining) → ReadingLeft old (byte ∷ held) limit script l
      → AfterByte new held limit script l result
  after-other byte other inside script l (text, s, is) =
      let grown = cut-longer text byte (ne_eqb byte 10 other) in
      let longer : open_line (text ++ byte ∷ []) ≡ open_line text ++ byte ∷ [] =
      ap (λ (c : CutText). c.rest) grown in
      let count : length (cut (text ++ byte ∷ [])).ended ≡ length (cut text).ended =
      ap (λ (c : CutText). length c.ended) grown in
      let after = inside text s in
      let line : new.line ≡ old.line = omega (arith, after.1.number, s.number, count) in
      rw after.0 (
        text ++ byte ∷ [],
        after.1,
        is ∙ text_left-longer ADDRESS_MAX old.line
            (open_line text) byte held script.given old.bytes limit script.fails below
            ∙ rw (longer, line, counted) refl,
      )

  after-lf : ((text : List ℕ) → Stands old text
      → (result ≡ line_result ADDRESS_MAX old.line (open_line text))
      × OnOk result (Stands new (text ++ 10 ∷ [])))
      → (script : Script) (l : Remaining) → ReadingLeft old (10 ∷ held) limit script l
      → AfterByte new held limit script l result
  after-lf ends script l (text, s, is) =
      let after = ends text s in
      let room : limit - old.bytes ≡ suc (limit - new.bytes) = omega arith in
      let cut_off : l
      ≡ form_left (form ADDRESS_MAX (open_line text)) old.line
      (text_left ADDRESS_MAX (old.line + 1) (held ++ script.given)
      (limit - new.bytes) script.fails) =
      is ∙ rw room
      (text_left-line ADDRESS_MAX old.line (open_line text) (open_line-open text)
      (held ++ script.given) (limit - new.bytes) script.fails) in
      after-line new held limit script l
      (text_left ADDRESS_MAX (old.line + 1) (held ++ script.given)
      (limit - new.bytes) script.fails)
      (form ADDRESS_MAX (open_line text)) old.line result cut_off after.0
      (OnOk-map result (Stands new (text ++ 10 ∷ []))
      (ReadingLeft new held limit script
      (text_left ADDRESS_MAX (old.line + 1) (held ++ script.given)
      (limit - new.bytes) script.fails))
      (ended-left new text held limit old.line script s.number) after.1)

  pub after-byte : (byte : ℕ)
      → (byte ≢ 10 → (text : List ℕ) → Stands old text → (result ≡ Ok None)
      × Stands new (text ++ byte ∷ []))
      → (byte ≡ 10 → (text : List ℕ) → Stands old text
      → (result ≡ line_result ADDRESS_MAX old.line (open_line text))
      × OnOk result (Stands new (text ++ byte ∷ [])))
      → (script : Script) (l : Remaining) → ReadingLeft old (byte ∷ held) limit script l
      → AfterByte new held limit script l result
  after-byte byte inside ends script l left =
      elim (cases_eq byte 10) [
        | inl e ↦ after-lf (rw e at (ends e)) script l (rw e at left)
        | inr other ↦ after-other byte other (inside other) script l left
      ]

-- a byte past the limit
pub after-past : (reader : LineReader) (byte : ℕ) (held : List ℕ) (limit : ℕ) (script : Script)
    (l : Remaining)
    → reader.bytes ≡ limit
    → ReadingLeft reader (byte ∷ held) limit script l
    → l ≡ record { records = []; fault = Some TooLong }
after-past reader byte held limit script l at_limit (text, s, is) =
    let none : limit - reader.bytes ≡ 0 = omega arith in
    is ∙ rw none
    (text_left-past ADDRESS_MAX reader.line (open_line text) (open_line-open text) byte
    (held ++ script.given) script.fails)

-- the reader failed
pub after-failure : (reader : LineReader) (limit : ℕ) (l : Remaining)
    → ReadingLeft reader [] limit (record { given = []; fails = true }) l
    → l ≡ record { records = []; fault = Some Read }
after-failure reader limit l (text, s, is) = is
    ∙ text_left-failed ADDRESS_MAX reader.line (open_line text) (open_line-open text)
    (limit - reader.bytes)

-- the first byte that is held
pub held-first : (buffer : List ℕ) (at filled : ℕ) → at < filled → filled ≤ length buffer
    → take (filled - at) (drop at buffer)
    ≡ get_or buffer at 0 ∷ take (filled - (at + 1)) (drop (at + 1) buffer)
held-first buffer at filled below fits =
    let count : filled - at ≡ suc (filled - (at + 1)) = omega arith in
    rw (drop_more buffer at 0 (omega arith), count) refl

pub none_from_sound : (state : State) (fault : Option Why) → state ≡ states.Reading
    → is_sound state fault ≡ true → fault ≡ None
none_from_sound states.Reading None is sound = refl
none_from_sound states.Reading (Some why) is sound = absurd cc
none_from_sound states.Ended fault is sound = absurd cc
none_from_sound (states.Failed f) fault is sound = absurd cc

module _ (at : State) (is : at
    ≡ states.Reading) (reader : LineReader) (held : List ℕ) (limit : ℕ) (script : Script)
    (l : Remaining) where
  pub reading-left : HasLeftIn at reader held limit script l
      → ReadingLeft reader held limit script l
  reading-left left = rw is at left

  pub left-reading : ReadingLeft reader held limit script l
      → HasLeftIn at reader held limit script l
  left-reading left = rw is left

-- no bytes are held between two equal indexes
pub held-none : (buffer : List ℕ) (at filled : ℕ) → at ≡ filled
    → take (filled - at) (drop at buffer) ≡ []
held-none buffer at filled e = let none : filled - at ≡ 0 = omega arith in rw none refl

-- what is left after the end of the last line
abbrev pub AfterEnd : Remaining → Result (Option DinRecord) TraceFault → Type 0
AfterEnd l (Ok found) = (Ok found ≡ first_answer l)
    × (after_first l ≡ record { records = []; fault = None })
AfterEnd l (Err f) = (Err f ≡ first_answer l)
    × (after_first l ≡ record { records = []; fault = Some f })

form-ended : (f : Form) (number : ℕ) (l : Remaining) (result : Result (Option DinRecord) TraceFault)
    → l ≡ form_left f number (record { records = []; fault = None })
    → result ≡ form_result number f → AfterEnd l result
form-ended Blank number l result is answer = rw (answer, is) (refl, refl)
form-ended (Din r) number l result is answer = rw (answer, is) (refl, refl)
form-ended (Faulty why) number l result is answer = rw (answer, is) (refl, refl)

line-ended : (line : List ℕ) (number : ℕ) (l : Remaining)
    (result : Result (Option DinRecord) TraceFault)
    → l ≡ lines_left ADDRESS_MAX number (last_line line) None
    → (line ≡ [] → result ≡ Ok None)
    → (0 < length line → result ≡ line_result ADDRESS_MAX number line) → AfterEnd l result
line-ended [] number l result is empty ends = rw (empty refl, is) (refl, refl)
line-ended (byte ∷ line) number l result is empty ends =
    form-ended (form ADDRESS_MAX (byte ∷ line)) number l result is (ends (omega arith))

pub after-end : (reader : LineReader) (limit : ℕ) (l : Remaining)
    (result : Result (Option DinRecord) TraceFault)
    → ((text : List ℕ) → Stands reader text → open_line text ≡ [] → result ≡ Ok None)
    → ((text : List ℕ) → Stands reader text → 0 < length (open_line text) → result
    ≡ line_result ADDRESS_MAX reader.line (open_line text))
    → ReadingLeft reader [] limit (record { given = []; fails = false }) l → AfterEnd l result
after-end reader limit l result empty ends (text, s, is) =
    line-ended (open_line text) reader.line l result
    (is ∙ text_left-ended ADDRESS_MAX reader.line (open_line text) (open_line-open text)
    (limit - reader.bytes))
    (empty text s) (ends text s)
