-- Each line has exactly one form.
use Rattle.std.proofs.Common.{◌≡◌, ℕ, ◌<◌, ◌≤◌, true, false, List, [], ◌∷◌, ◌++◌, length, refl, sym}
use Rattle.std.proofs.Common.{ap, ◌∙◌, subst, inl, inr, arith}
use Rattle.std.specs.Prelude.{nat_lt}
use Rattle.std.proofs.lemmas.Bool.{cases_Bool, ltb-true, ltb-false, lt-ltb, le-ltb}
use Rattle.std.proofs.lemmas.Bool.Decides.{nat_tests}
use Rattle.std.proofs.lemmas.List.{append-nil}
use Rattle.din_trace.specs.declared.record.Label.{Label}
use Rattle.din_trace.specs.declared.record.DinRecord.{DinRecord}
use Rattle.din_trace.specs.declared.fault.Why.TheVariants as why
use Rattle.din_trace.specs.Line.{is_blank, is_label, label_of, is_hex, hex_value, Each, StopsAt}
use Rattle.din_trace.specs.Line.{Begins, HasParts, Form, Blank, Din, Faulty, HasForm, IsComment}
use Rattle.din_trace.specs.Line.{front, after, after_prefix, form, label_form, gap_form}
use Rattle.din_trace.specs.Line.{address_form, digits_form, tail_form}
use Rattle.din_trace.proofs.Runs.{after-append, front-append, after-each, front-append-after}
use Rattle.din_trace.proofs.Runs.{Each-front, StopsAt-after, prefix_of, prefix_of-append}
use Rattle.din_trace.proofs.Runs.{after_prefix-append}

-- a digit 0 to 4 is not a blank
pub label_not_blank : (byte : ℕ) → is_label byte ≡ true → is_blank byte ≡ false
unfolding is_label is_blank
label_not_blank byte h = grind (arith, nat_tests)

form-begins : (bound : ℕ) (line : List ℕ) (byte : ℕ) (rest : List ℕ) → Begins line byte rest
    → is_blank byte ≡ false → form bound line ≡ label_form bound (byte ∷ rest)
unfolding form
form-begins bound line byte rest b e =
    rw (b.whole, after-append is_blank b.lead (byte ∷ rest) b.blanks e) refl

form-labeled : (bound : ℕ) (line : List ℕ) (byte : ℕ) (rest : List ℕ) → Begins line byte rest
    → is_label byte ≡ true → form bound line ≡ gap_form bound (label_of byte) rest
form-labeled bound line byte rest b e = form-begins bound line byte rest b (label_not_blank byte e)
    ∙ rw e refl

gap_form-gap : (bound : ℕ) (l : Label) (gap text : List ℕ) → Each is_blank gap → 0 < length gap
    → StopsAt is_blank text
    → gap_form bound l (gap ++ text) ≡ address_form bound l (after_prefix text)
gap_form-gap bound l [] text e n s = absurd (omega arith)
gap_form-gap bound l (byte ∷ gap) text e n s = rw (e.0, after-append is_blank gap text e.1 s) refl

address_form-digits : (bound : ℕ) (l : Label) (digits rest : List ℕ) → Each is_hex digits
    → StopsAt is_hex rest → address_form bound l (digits ++ rest) ≡ digits_form bound l digits rest
address_form-digits bound l digits rest e s =
    rw (front-append is_hex digits rest e s, after-append is_hex digits rest e s) refl

pub form-addressed : (bound : ℕ) (line : List ℕ) (digit : ℕ) (digits rest : List ℕ)
    → HasParts line digit digits rest
    → form bound line ≡ digits_form bound (label_of digit) digits rest
form-addressed bound line digit digits rest a =
    form-labeled bound line digit (a.gap ++ (a.prefix ++ (digits ++ rest))) a.begins a.labeled
    ∙ gap_form-gap bound (label_of digit) a.gap
    (a.prefix ++ (digits ++ rest)) a.blanks a.some a.all_blanks
    ∙ ap (address_form bound (label_of digit))
    (after_prefix-append a.prefix (digits ++ rest) a.prefixed)
    ∙ address_form-digits bound (label_of digit) digits rest a.hex a.all_hex

-- the form of a line with at least one digit, by the digits and what follows them
digits_form-range : (bound : ℕ) (l : Label) (digits rest : List ℕ) → bound < hex_value digits
    → digits_form bound l digits rest ≡ Faulty why.Range
digits_form-range bound l [] rest h = absurd (omega arith)
digits_form-range bound l (d ∷ digits) rest h = rw (lt-ltb bound (hex_value (d ∷ digits)) h) refl

digits_form-fits : (bound : ℕ) (l : Label) (digits rest : List ℕ) → 0 < length digits
    → hex_value digits ≤ bound
    → digits_form bound l digits rest
    ≡ tail_form (record { label = l; addr = hex_value digits }) rest
digits_form-fits bound l [] rest n h = absurd (omega arith)
digits_form-fits bound l (d ∷ digits) rest n h = rw (le-ltb bound (hex_value (d ∷ digits)) h) refl

tail_form-tail : (r : DinRecord) (rest : List ℕ) → IsComment rest → tail_form r rest ≡ Din r
tail_form-tail r [] t = refl
tail_form-tail r (byte ∷ rest) t = rw t refl

-- if a line has a form, it is the one found from left to right
pub form_is : (bound : ℕ) (line : List ℕ) (other : Form) → HasForm bound line other
    → other ≡ form bound line
unfolding form
form_is bound line Blank h = rw (after-each is_blank line h) refl
form_is bound line (Din r) (digit, digits, rest, a, n, fits, t, is) =
    rw is (sym (form-addressed bound line digit digits rest a
    ∙ digits_form-fits bound (label_of digit) digits rest n fits
    ∙ tail_form-tail (record { label = label_of digit; addr = hex_value digits }) rest t))
form_is bound line (Faulty why.Label) (byte, rest, b, not_blank, not_label) =
    sym (form-begins bound line byte rest b not_blank ∙ rw not_label refl)
form_is bound line (Faulty why.Gap) (digit, [], b, labeled, s) =
    sym (form-labeled bound line digit [] b labeled)
form_is bound line (Faulty why.Gap) (digit, byte ∷ rest, b, labeled, s) =
    sym (form-labeled bound line digit (byte ∷ rest) b labeled ∙ rw s refl)
form_is bound line (Faulty why.Address) (digit, rest, a) =
    sym (form-addressed bound line digit [] rest a)
form_is bound line (Faulty why.Range) (digit, digits, rest, a, past) =
    sym (form-addressed bound line digit digits rest a
    ∙ digits_form-range bound (label_of digit) digits rest past)
form_is bound line (Faulty why.Tail) (digit, digits, rest, a, n, fits, byte, more, is, not_blank) =
    sym (form-addressed bound line digit digits rest a
    ∙ digits_form-fits bound (label_of digit) digits rest n fits ∙ rw (is, not_blank) refl)

-- A line has the form found from left to right.

has-tail : (bound : ℕ) (line : List ℕ) (digit : ℕ) (digits rest : List ℕ)
    → HasParts line digit digits rest → 0 < length digits → hex_value digits ≤ bound
    → HasForm bound line
    (tail_form (record { label = label_of digit; addr = hex_value digits }) rest)
has-tail bound line digit digits [] a n fits = (digit, digits, [], a, n, fits, tt, refl)
has-tail bound line digit digits (byte ∷ rest) a n fits =
    elim (cases_Bool (is_blank byte)) [
      | inl e ↦ rw e (digit, digits, byte ∷ rest, a, n, fits, e, refl)
      | inr e ↦ rw e (digit, digits, byte ∷ rest, a, n, fits, byte, rest, refl, e)
    ]

has-digits : (bound : ℕ) (line : List ℕ) (digit : ℕ) (digits rest : List ℕ)
    → HasParts line digit digits rest
    → HasForm bound line (digits_form bound (label_of digit) digits rest)
has-digits bound line digit [] rest a = (digit, rest, a)
has-digits bound line digit (d ∷ digits) rest a =
    elim (cases_Bool (nat_lt bound (hex_value (d ∷ digits)))) [
      | inl e ↦ rw e (digit, d ∷ digits, rest, a, ltb-true bound (hex_value (d ∷ digits)) e)
      | inr e ↦ rw e
          (has-tail bound line digit (d ∷ digits) rest a (omega arith)
          (ltb-false bound (hex_value (d ∷ digits)) e))
    ]

-- the text of an address is a prefix, digits and a rest
has-address : (bound : ℕ) (line : List ℕ) (digit : ℕ) (gap text : List ℕ)
    → Begins line digit (gap ++ text) → is_label digit ≡ true → Each is_blank gap → 0 < length gap
    → StopsAt is_blank text
    → HasForm bound line (address_form bound (label_of digit) (after_prefix text))
has-address bound line digit gap text b labeled e n s =
    let digits : List ℕ = front is_hex (after_prefix text) in
    let rest : List ℕ = after is_hex (after_prefix text) in
    let parts : text ≡ prefix_of text ++ (digits ++ rest) = prefix_of-append text
    ∙ ap (λ bytes. prefix_of text ++ bytes) (front-append-after is_hex (after_prefix text)) in
    has-digits bound line digit digits rest (record {
      gap = gap;
      prefix = prefix_of text;
      begins = subst (λ bytes. Begins line digit (gap ++ bytes)) parts b;
      labeled = labeled;
      blanks = e;
      some = n;
      all_blanks = subst (StopsAt is_blank) parts s;
      prefixed = ap prefix_of parts;
      hex = Each-front is_hex (after_prefix text);
      all_hex = StopsAt-after is_hex (after_prefix text);
    })

has-gap : (bound : ℕ) (line : List ℕ) (digit : ℕ) (rest : List ℕ) → Begins line digit rest
    → is_label digit ≡ true → HasForm bound line (gap_form bound (label_of digit) rest)
has-gap bound line digit [] b labeled = (digit, [], b, labeled, tt)
has-gap bound line digit (byte ∷ rest) b labeled =
    elim (cases_Bool (is_blank byte)) [
      | inl e ↦ rw e
          (has-address bound line digit (byte ∷ front is_blank rest) (after is_blank rest)
          (subst (λ bytes. Begins line digit (byte ∷ bytes))
          (front-append-after is_blank rest) b) labeled (e, Each-front is_blank rest)
          (omega arith) (StopsAt-after is_blank rest))
      | inr e ↦ rw e (digit, byte ∷ rest, b, labeled, e)
    ]

has-label : (bound : ℕ) (line lead rest : List ℕ) → Each is_blank lead → line ≡ lead ++ rest
    → StopsAt is_blank rest → HasForm bound line (label_form bound rest)
has-label bound line lead [] e whole s = let same : line ≡ lead = whole
    ∙ append-nil lead in rw same e
has-label bound line lead (byte ∷ rest) e whole s =
    let b : Begins line byte rest = record { lead = lead; blanks = e; whole = whole } in
    elim (cases_Bool (is_label byte)) [
      | inl h ↦ rw h (has-gap bound line byte rest b h)
      | inr h ↦ rw h (byte, rest, b, s, h)
    ]

pub has_form : (bound : ℕ) (line : List ℕ) → HasForm bound line (form bound line)
unfolding form
has_form bound line =
    has-label bound line (front is_blank line) (after is_blank line) (Each-front is_blank line)
    (front-append-after is_blank line) (StopsAt-after is_blank line)
