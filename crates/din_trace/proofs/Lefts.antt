-- What is left of a text after one byte of it.
use Rattle.std.proofs.Common.{◌≡◌, ℕ, suc, ◌+◌, ◌-◌, ◌<◌, ◌≤◌, leb, Bool, true, false, cond, List}
use Rattle.std.proofs.Common.{[], ◌∷◌, ◌++◌, length, take, Some, None, refl, ap, ◌∙◌, append_assoc}
use Rattle.std.proofs.Common.{length-append, arith, inl, inr}
use Rattle.std.specs.Prelude.{nat_le}
use Rattle.std.proofs.lemmas.Bool.{cases_Bool, le-leb, lt-leb, leb-true, leb-false}
use Rattle.std.proofs.lemmas.List.{append-nil}
use Rattle.din_trace.specs.declared.fault.TraceFault.TheVariants.{TooLong, Read}
use Rattle.din_trace.specs.Line.{form}
use Rattle.din_trace.specs.Text.{CutText, cut, lines, ended_lines, open_line, last_line, form_left}
use Rattle.din_trace.specs.Text.{lines_left, text_left}
use Rattle.din_trace.proofs.Cuts.{cut-append, IsOpen}

take-over : (w rest : List ℕ) (n : ℕ) → take (length w + n) (w ++ rest) ≡ w ++ take n rest
take-over [] rest n = let e : 0 + n ≡ n = omega arith in rw e refl
take-over (byte ∷ w) rest n = let e : suc (length w) + n ≡ suc (length w + n) =
    omega arith in rw e (ap (λ bytes. byte ∷ bytes) (take-over w rest n))

-- a byte of an unfinished line
pub text_left-longer : (bound number : ℕ) (w : List ℕ) (byte : ℕ) (held given : List ℕ)
    (bytes limit : ℕ) (fails : Bool)
    → bytes < limit
    → text_left bound number (w ++ ((byte ∷ held) ++ given)) (length w + (limit - bytes)) fails
    ≡ text_left bound number ((w ++ byte ∷ []) ++ (held ++ given))
    (length (w ++ byte ∷ []) + (limit - (bytes + 1))) fails
text_left-longer bound number w byte held given bytes limit fails h =
    let room : length (w ++ byte ∷ []) + (limit - (bytes + 1)) ≡ length w + (limit - bytes) =
    simp length-append (omega arith) in
    rw (room, append_assoc {A = ℕ} w (byte ∷ []) (held ++ given)) refl

module _ (bound number : ℕ) (w : List ℕ) (is_open : IsOpen w) where
  ended_lines-line : (rest : List ℕ) → ended_lines (w ++ 10 ∷ rest) ≡ w ∷ ended_lines rest
  ended_lines-line rest = ap (λ (c : CutText). c.ended) (cut-append w rest)
      ∙ ap (λ (c : CutText). c.ended ++ c.rest ∷ (cut rest).ended) is_open

  lines-line : (rest : List ℕ) → lines (w ++ 10 ∷ rest) ≡ w ∷ lines rest
  lines-line rest = ap (λ (c : CutText). c.ended ++ last_line c.rest) (cut-append w rest)
      ∙ ap (λ (c : CutText). (c.ended ++ c.rest ∷ (cut rest).ended) ++ last_line
      (cut rest).rest) is_open

  no_line : ended_lines w ≡ []
  no_line = ap (λ (c : CutText). c.ended) is_open

  whole_line : open_line w ≡ w
  whole_line = ap (λ (c : CutText). c.rest) is_open

  fits_behind : (rest : List ℕ) (room : ℕ)
      → nat_le (length (w ++ 10 ∷ rest)) (length w + suc room) ≡ nat_le (length rest) room
  fits_behind rest room =
      elim (cases_Bool (leb (length rest) room)) [
        | inl e ↦ let h : length rest ≤ room =
            leb-true _ _ e in rw e (le-leb _ _ (simp length-append (omega arith)))
        | inr e ↦ let h : room < length rest =
            leb-false _ _ e in rw e (lt-leb _ _ (simp length-append (omega arith)))
      ]

  -- the LF that ends a line
  pub text_left-line : (rest : List ℕ) (room : ℕ) (fails : Bool)
      → text_left bound number (w ++ 10 ∷ rest) (length w + suc room) fails
      ≡ form_left (form bound w) number (text_left bound (number + 1) rest room fails)
  text_left-line rest room fails =
      rw (fits_behind rest room) (elim (cases_Bool (nat_le (length rest) room)) [
        | inl e ↦ rw e
            (elim fails as
            (λ f. cond f (lines_left bound number (ended_lines (w ++ 10 ∷ rest)) (Some Read))
            (lines_left bound number (lines (w ++ 10 ∷ rest)) None)
            ≡ form_left (form bound w) number
            (cond f (lines_left bound (number + 1) (ended_lines rest) (Some Read))
            (lines_left bound (number + 1) (lines rest) None))) [
              | true ↦ rw (ended_lines-line rest) refl
              | false ↦ rw (lines-line rest) refl
            ])
        | inr e ↦ rw (e, take-over w (10 ∷ rest) (suc room), ended_lines-line (take room rest)) refl
      ])

  -- a byte past the limit
  pub text_left-past : (byte : ℕ) (rest : List ℕ) (fails : Bool)
      → text_left bound number (w ++ byte ∷ rest) (length w + 0) fails
      ≡ record { records = []; fault = Some TooLong }
  text_left-past byte rest fails =
      rw (
        lt-leb (length (w ++ byte ∷ rest)) (length w + 0)
            (simp length-append (omega arith)),
        take-over w
            (byte ∷ rest) 0,
        append-nil w,
        no_line,
      ) refl

  fits_all : (room : ℕ) → nat_le (length (w ++ ([] ++ []))) (length w + room) ≡ true
  fits_all room = le-leb _ _ (simp (append-nil {A = ℕ}) (omega arith))

  -- the reader fails
  pub text_left-failed : (room : ℕ)
      → text_left bound number (w ++ ([] ++ [])) (length w + room) true
      ≡ record { records = []; fault = Some Read }
  text_left-failed room = rw (fits_all room, append-nil w, no_line) refl

  -- the text ends
  pub text_left-ended : (room : ℕ)
      → text_left bound number (w ++ ([] ++ [])) (length w + room) false
      ≡ lines_left bound number (last_line w) None
  text_left-ended room = rw (fits_all room, append-nil w, no_line, whole_line) refl
