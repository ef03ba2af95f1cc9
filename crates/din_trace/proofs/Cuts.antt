-- The lines of a text that grows.
use Rattle.std.proofs.Common.{◌≡◌, ◌≢◌, ℕ, ◌+◌, true, false, eqb, List, [], ◌∷◌, ◌++◌}
use Rattle.std.proofs.Common.{Some, None, refl, ap, sym, ◌∙◌, inl, inr}
use Rattle.std.specs.List.{All, flat_map}
use Rattle.std.proofs.lemmas.Bool.{cases_Bool, eq-eqb, eqb-true}
use Rattle.std.proofs.lemmas.List.Elements.{All-cons, All-head, All-nil, All-tail}
use Rattle.din_trace.specs.declared.fault.TraceFault.{TraceFault}
use Rattle.din_trace.specs.Laws.{IsCut}
use Rattle.din_trace.specs.Line.{Form, Blank, Din, Faulty, form}
use Rattle.din_trace.specs.Text.{cut, with_first, Remaining, form_left, lines_left, first_fault}

-- a byte before a text whose last line has just ended
with_first-ended : (byte : ℕ) (ended : List (List ℕ)) (rest : List ℕ)
    → with_first byte (ended ++ rest ∷ []) []
    ≡ record {
      ended =
          (with_first byte ended rest).ended ++ (with_first byte ended rest).rest ∷ [];
      rest = [];
    }
with_first-ended byte [] rest = refl
with_first-ended byte (line ∷ ended) rest = refl

-- an LF ends the line
pub cut-ended : (text : List ℕ)
    → cut (text ++ 10 ∷ []) ≡ record { ended = (cut text).ended ++ (cut text).rest ∷ []; rest = [] }
cut-ended [] = refl
cut-ended (byte ∷ text) =
    elim (cases_Bool (eqb byte 10)) [
      | inl e ↦ rw (e, cut-ended text) refl
      | inr e ↦ rw (e, cut-ended text) (with_first-ended byte (cut text).ended (cut text).rest)
    ]

-- a byte before a text whose last line goes on
with_first-longer : (byte last : ℕ) (ended : List (List ℕ)) (rest : List ℕ)
    → with_first byte ended (rest ++ last ∷ [])
    ≡ record {
      ended = (with_first byte ended rest).ended;
      rest =
          (with_first byte ended rest).rest ++ last ∷ [];
    }
with_first-longer byte last [] rest = refl
with_first-longer byte last (line ∷ ended) rest = refl

-- any other byte makes the line longer
pub cut-longer : (text : List ℕ) (last : ℕ) → eqb last 10 ≡ false
    → cut (text ++ last ∷ [])
    ≡ record { ended = (cut text).ended; rest = (cut text).rest ++ last ∷ [] }
cut-longer [] last h = rw h refl
cut-longer (byte ∷ text) last h =
    elim (cases_Bool (eqb byte 10)) [
      | inl e ↦ rw (e, cut-longer text last h) refl
      | inr e ↦ rw (e, cut-longer text last h)
          (with_first-longer byte last (cut text).ended (cut text).rest)
    ]

-- the line is not faulty
abbrev pub IsSound : Form → Type 0
IsSound Blank = Unit {0}
IsSound (Din r) = Unit {0}
IsSound (Faulty why) = ⊥

-- if a text has no fault, what follows its first line has none
pub others_none : (f : Form) (number : ℕ) (others : Remaining)
    → (form_left f number others).fault ≡ None → others.fault ≡ None
others_none Blank number others none = none
others_none (Din r) number others none = none
others_none (Faulty why) number others none = absurd cc

-- a line that was no fault before one text is none before another
pub form_left-none : (f : Form) (number : ℕ) (others now : Remaining)
    → (form_left f number others).fault ≡ None → now.fault ≡ None
    → (form_left f number now).fault ≡ None
form_left-none Blank number others now none is = is
form_left-none (Din r) number others now none is = is
form_left-none (Faulty why) number others now none is = absurd cc

-- a sound line has no fault of its own
form_left-sound : (f : Form) (number : ℕ) (others : Remaining) → IsSound f
    → (form_left f number others).fault ≡ others.fault
form_left-sound Blank number others h = refl
form_left-sound (Din r) number others h = refl
form_left-sound (Faulty why) number others h = absurd h

-- one more line that is not faulty
pub first_fault-append : (bound number : ℕ) (ls : List (List ℕ)) (line : List ℕ)
    → first_fault bound number ls None ≡ None → IsSound (form bound line)
    → first_fault bound number (ls ++ line ∷ []) None ≡ None
first_fault-append bound number [] line none h =
    form_left-sound (form bound line) number (lines_left bound (number + 1) [] None) h
first_fault-append bound number (l ∷ ls) line none h =
    form_left-none (form bound l) number (lines_left bound (number + 1) ls None)
    (lines_left bound (number + 1) (ls ++ line ∷ []) None) none
    (first_fault-append bound (number + 1) ls line
    (others_none (form bound l) number (lines_left bound (number + 1) ls None) none) h)

with_first-more : (byte : ℕ) (ended more : List (List ℕ)) (line rest : List ℕ)
    → with_first byte (ended ++ line ∷ more) rest
    ≡ record {
      ended =
          (with_first byte ended line).ended ++ (with_first byte ended line).rest ∷ more;
      rest = rest;
    }
with_first-more byte [] more line rest = refl
with_first-more byte (first ∷ ended) more line rest = refl

-- a text with an LF in it
pub cut-append : (text rest : List ℕ)
    → cut (text ++ 10 ∷ rest)
    ≡ record {
      ended = (cut text).ended ++ (cut text).rest ∷ (cut rest).ended;
      rest =
          (cut rest).rest;
    }
cut-append [] rest = refl
cut-append (byte ∷ text) rest =
    elim (cases_Bool (eqb byte 10)) [
      | inl e ↦ rw (e, cut-append text rest) refl
      | inr e ↦ rw (e, cut-append text rest)
          (with_first-more byte (cut text).ended (cut rest).ended (cut text).rest (cut rest).rest)
    ]

-- no LF is in the text
abbrev pub IsOpen : List ℕ → Type 0
IsOpen text = cut text ≡ record { ended = []; rest = text }

with_first-open : (byte : ℕ) (ended : List (List ℕ)) (rest : List ℕ) → eqb byte 10 ≡ false
    → IsOpen rest → IsOpen (with_first byte ended rest).rest
with_first-open byte [] rest e h = rw (e, h) refl
with_first-open byte (line ∷ ended) rest e h = h

-- what follows the last LF
pub open_line-open : (text : List ℕ) → IsOpen (cut text).rest
open_line-open [] = refl
open_line-open (byte ∷ text) =
    elim (cases_Bool (eqb byte 10)) [
      | inl e ↦ rw e (open_line-open text)
      | inr e ↦ rw e (with_first-open byte (cut text).ended (cut text).rest e (open_line-open text))
    ]

-- if a fault is given for the case that no line is faulty, there is always a fault
pub first_fault-some : (bound : ℕ) (f : TraceFault) (number : ℕ) (ls : List (List ℕ))
    → first_fault bound number ls (Some f) ≡ None → ⊥
first_fault-some bound f number [] none = cc
first_fault-some bound f number (line ∷ ls) none =
    first_fault-some bound f (number + 1) ls
    (others_none (form bound line) number (lines_left bound (number + 1) ls (Some f)) none)

-- a byte before a text comes first in its lines
with_first-whole : (byte : ℕ) (ended : List (List ℕ)) (rest : List ℕ)
    → flat_map (λ line. line ++ 10 ∷ []) (with_first byte ended rest).ended
    ++ (with_first byte ended rest).rest
    ≡ byte ∷ (flat_map (λ line. line ++ 10 ∷ []) ended ++ rest)
with_first-whole byte [] rest = refl
with_first-whole byte (line ∷ ended) rest = refl

-- the lines with their LFs are the text
lines-whole : (text : List ℕ)
    → flat_map (λ line. line ++ 10 ∷ []) (cut text).ended ++ (cut text).rest ≡ text
lines-whole [] = refl
lines-whole (byte ∷ text) =
    elim (cases_Bool (eqb byte 10)) [
      | inl e ↦ rw e (
          ap (λ bytes. 10 ∷ bytes) (lines-whole text)
          ∙ ap (λ b. b ∷ text) (sym (eqb-true byte 10 e)))
      | inr e ↦ rw e (with_first-whole byte (cut text).ended (cut text).rest
          ∙ ap (λ bytes. byte ∷ bytes) (lines-whole text))
    ]

-- the bytes are no LFs
abbrev NoLf : List ℕ → Type 0
NoLf = All (λ byte. byte ≢ 10)

with_first-no_lf : (byte : ℕ) (ended : List (List ℕ)) (rest : List ℕ) → byte ≢ 10
    → All NoLf ended → NoLf rest
    → All NoLf (with_first byte ended rest).ended × NoLf (with_first byte ended rest).rest
with_first-no_lf byte [] rest other lines last =
    (lines, All-cons (λ b. b ≢ 10) byte rest other last)
with_first-no_lf byte (line ∷ ended) rest other lines last = (
  All-cons NoLf (byte ∷ line) ended
      (All-cons (λ b. b ≢ 10) byte line other (All-head NoLf line ended lines))
      (All-tail NoLf line ended lines),
  last,
)

lines-no_lf : (text : List ℕ) → All NoLf (cut text).ended × NoLf (cut text).rest
lines-no_lf [] = (All-nil NoLf, All-nil (λ b. b ≢ 10))
lines-no_lf (byte ∷ text) =
    let others = lines-no_lf text in
    elim (cases_Bool (eqb byte 10)) [
      | inl e ↦ rw e (
        All-cons NoLf [] (cut text).ended (All-nil (λ b. b ≢ 10)) others.0,
        others.1,
      )
      | inr e ↦ rw e (with_first-no_lf byte (cut text).ended (cut text).rest
          (λ same. let both : false ≡ true = sym e ∙ eq-eqb byte 10 same in cc) others.0 others.1)
    ]

pub cut_is : (text : List ℕ) → IsCut text
cut_is text = record {
  whole = lines-whole text;
  ended = (lines-no_lf text).0;
  last = (lines-no_lf text).1;
}
