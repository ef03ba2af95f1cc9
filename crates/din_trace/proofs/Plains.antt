-- Whole lines at the front of some bytes.
use Rattle.std.proofs.Common.{◌≡◌, ℕ, suc, ◌+◌, ◌*◌, ◌^◌, ◌<◌, ◌≤◌, Bool, true, false, eqb}
use Rattle.std.proofs.Common.{cond, List, [], ◌∷◌, ◌++◌, length, take, drop, refl, sym, ap, ◌∙◌}
use Rattle.std.proofs.Common.{arith, append_assoc, length-append, inl, inr, slice_index_or}
use Rattle.std.specs.Prelude.{nat_lt, nat_le, ◌&&◌, ◌||◌}
use Rattle.std.specs.Char.{digit_value}
use Rattle.std.proofs.lemmas.Bool.{cases_eq, eqb-true, ne_eqb, false≢true, and_parts, and_right}
use Rattle.std.specs.List.{AllByRecursion}
use Rattle.std.proofs.lemmas.List.Sums.{fold-append}
use Rattle.std.proofs.Math.Nat.{pow-le-pow_right, pow-succ'}
use Rattle.din_trace.specs.Line.{is_blank, is_label, label_of, is_hex, hex_value, has_prefix, Each}
use Rattle.din_trace.specs.Line.{StopsAt, IsComment, Din, ADDRESS_MAX}
use Rattle.din_trace.specs.Plain.{BeginsWithLine, IsPrefix, HasNoLf, Run}
use Rattle.std.proofs.lemmas.List.{drop_more}
use Rattle.din_trace.proofs.Forms.{form_is}

other_than : (test : ℕ → Bool) (byte other : ℕ) → test byte ≡ true → test other ≡ false
    → eqb byte other ≡ false
other_than test byte other at_byte at_other =
    elim (cases_eq byte other) [
      | inl e ↦ absurd (false≢true (sym at_other ∙ (rw e at at_byte)))
      | inr n ↦ ne_eqb byte other n
    ]

hex_no_lf : (byte : ℕ) → is_hex byte ≡ true → eqb byte 10 ≡ false
unfolding is_hex
hex_no_lf byte h = other_than (λ b. nat_lt (digit_value b) 16) byte 10 h refl

label_no_lf : (byte : ℕ) → is_label byte ≡ true → eqb byte 10 ≡ false
unfolding is_label
label_no_lf byte h = other_than (λ b. nat_le 48 b && nat_le b 52) byte 10 h refl

hex_no_x : (byte : ℕ) → is_hex byte ≡ true → (eqb byte 120 ≡ false) × (eqb byte 88 ≡ false)
unfolding is_hex
hex_no_x byte h = (
  other_than (λ b. nat_lt (digit_value b) 16) byte 120 h refl,
  other_than
      (λ b. nat_lt (digit_value b) 16) byte 88 h refl,
)

hex_not_blank : (byte : ℕ) → is_hex byte ≡ true → is_blank byte ≡ false
unfolding is_hex is_blank
hex_not_blank byte h =
    rw (
      other_than (λ b. nat_lt (digit_value b) 16) byte 32 h refl,
      other_than
          (λ b. nat_lt (digit_value b) 16) byte 9 h refl,
      other_than
          (λ b. nat_lt (digit_value b) 16) byte 13 h refl,
    ) refl

-- two tests that no byte passes both
apart : (a b : Bool) → (a ≡ true → b ≡ false) → b ≡ true → a ≡ false
apart true b h k = absurd (false≢true (sym (h refl) ∙ k))
apart false b h k = refl

blank_not_hex : (byte : ℕ) → is_blank byte ≡ true → is_hex byte ≡ false
blank_not_hex byte = apart (is_hex byte) (is_blank byte) (hex_not_blank byte)

pub blank_no_lf : (byte : ℕ) → is_blank byte ≡ true → eqb byte 10 ≡ false
unfolding is_blank
blank_no_lf byte h = other_than (λ b. eqb b 32 || eqb b 9 || eqb b 13) byte 10 h refl

blank_no_x : (byte : ℕ) → is_blank byte ≡ true → (eqb byte 120 ≡ false) × (eqb byte 88 ≡ false)
unfolding is_blank
blank_no_x byte h = (
  other_than (λ b. eqb b 32 || eqb b 9 || eqb b 13) byte 120 h refl,
  other_than (λ b. eqb b 32 || eqb b 9 || eqb b 13) byte 88 h refl,
)

pub space_is_blank : is_blank 32 ≡ true
unfolding is_blank
space_is_blank = refl

each_no_lf : (test : ℕ → Bool) → ((byte : ℕ) → test byte ≡ true → eqb byte 10 ≡ false)
    → (run : List ℕ) → Each test run → HasNoLf run
each_no_lf test no_lf [] each = tt
each_no_lf test no_lf (byte ∷ run) each =
    (no_lf byte each.0, each_no_lf test no_lf run each.1)

no_prefix : (digits comment : List ℕ) → Each is_hex digits → 0 < length digits
    → IsComment comment → has_prefix (digits ++ comment) ≡ false
no_prefix [] comment hex some is_comment = absurd (omega arith)
no_prefix (a ∷ []) [] hex some is_comment = refl
no_prefix (a ∷ []) (b ∷ comment) hex some is_comment = let no =
    blank_no_x b is_comment in rw (no.0, no.1) (and_right (eqb a 48) false refl)
no_prefix (a ∷ b ∷ digits) comment hex some is_comment = let no =
    hex_no_x b hex.1.0 in rw (no.0, no.1) (and_right (eqb a 48) false refl)

no_blank : (digits tail : List ℕ) → Each is_hex digits → 0 < length digits
    → StopsAt is_blank (digits ++ tail)
no_blank [] tail hex some = absurd (omega arith)
no_blank (byte ∷ digits) tail hex some = hex_not_blank byte hex.0

-- what a prefix is for the definition of a line's parts
record IsPart (prefix text : List ℕ) : Type 0 where
  is : prefix ≡ cond (has_prefix (prefix ++ text)) (take 2 (prefix ++ text)) []
  no_blank : StopsAt is_blank (prefix ++ text)
  no_lf : HasNoLf prefix

x_no_lf : (b : ℕ) → (eqb b 120 || eqb b 88) ≡ true → eqb b 10 ≡ false
x_no_lf b h = other_than (λ byte. eqb byte 120 || eqb byte 88) b 10 h refl

prefix_is_part : (prefix digits tail : List ℕ) → IsPrefix prefix → Each is_hex digits
    → 0 < length digits → IsComment tail → IsPart prefix (digits ++ tail)
unfolding is_blank
prefix_is_part [] digits tail p hex some is_comment =
    record {
      is = rw (no_prefix digits tail hex some is_comment) refl;
      no_blank =
          no_blank digits tail hex some;
      no_lf = tt;
    }
prefix_is_part (a ∷ []) digits tail p hex some is_comment = absurd p
prefix_is_part (a ∷ b ∷ rest) digits tail p hex some is_comment =
    let parts = and_parts (eqb a 48) (eqb b 120 || eqb b 88) p.0 in
    let zero_is : a ≡ 48 = eqb-true a 48 parts.0 in
    rw p.1 (record {
      is = rw p.0 refl;
      no_blank = rw zero_is refl;
      no_lf =
          (rw zero_is refl, (x_no_lf b parts.1, tt));
    })

comment_stops : (comment : List ℕ) → IsComment comment → StopsAt is_hex comment
comment_stops [] is = tt
comment_stops (byte ∷ comment) is = blank_not_hex byte is

all-append : (Holds : ℕ → Type 0) (xs ys : List ℕ) → AllByRecursion Holds xs
    → AllByRecursion Holds ys → AllByRecursion Holds (xs ++ ys)
all-append Holds [] ys h k = k
all-append Holds (x ∷ xs) ys h k = (h.0, all-append Holds xs ys h.1 k)

-- one more byte of a run
pub run-more : (Holds : ℕ → Type 0) (bytes : List ℕ) (start at : ℕ)
    → (run : Run Holds bytes start at) → at < length bytes → Holds (slice_index_or bytes at 0)
    → (more : Run Holds bytes start (at + 1))
    × (more.run ≡ run.run ++ slice_index_or bytes at 0 ∷ [])
run-more Holds bytes start at run below holds =
    let byte : ℕ = slice_index_or bytes at 0 in (
      record {
        run = run.run ++ byte ∷ [];
        each = all-append Holds run.run (byte ∷ []) run.each (holds, tt);
        counted = simp length-append (omega (arith, run.counted));
        whole = run.whole ∙ rw (drop_more bytes at 0 below)
            (sym (append_assoc {A = ℕ} run.run (byte ∷ []) (drop (at + 1) bytes)));
      },
      refl,
    )

-- a loop over the bytes has come to this index, and has passed such a run
abbrev pub RunsTo : (List ℕ → ℕ → ℕ → Type 0) → List ℕ → ℕ → ℕ → Type 0
RunsTo IsRun bytes start at = record { to : at ≤ length bytes; run : IsRun bytes start at }

-- so it has after one more byte with the property
pub runs_to-more : (Holds : ℕ → Type 0) (bytes : List ℕ) (start at : ℕ)
    → RunsTo (Run Holds) bytes start at → at < length bytes → Holds (slice_index_or bytes at 0)
    → RunsTo (Run Holds) bytes start (at + 1)
runs_to-more Holds bytes start at so_far below holds = record {
  to = omega arith;
  run = (run-more Holds bytes start at so_far.run below holds).0;
}

-- a label, blanks, a prefix or none, digits, and nothing or a comment
pub begins_plain : (bytes : List ℕ) (digit : ℕ) (gap prefix digits comment : List ℕ) (count : ℕ)
    → is_label digit ≡ true → Each is_blank gap → 0 < length gap → IsPrefix prefix
    → Each is_hex digits → 0 < length digits → hex_value digits ≤ ADDRESS_MAX
    → IsComment comment → HasNoLf comment
    → bytes ≡ digit ∷ (gap ++ (prefix ++ (digits ++ (comment ++ 10 ∷ drop count bytes))))
    → count ≡ length gap + length prefix + length digits + length comment + 2
    → BeginsWithLine bytes (record { label = label_of digit; addr = hex_value digits }) count
begins_plain bytes digit gap prefix digits comment count labeled blanks gapped is_prefix hex some
    fits is_comment no_lf whole counted
    =
    let part = prefix_is_part prefix digits comment is_prefix hex some is_comment in
    record {
      line = digit ∷ (gap ++ (prefix ++ (digits ++ comment)));
      whole = whole ∙ ap (λ (more : List ℕ). digit ∷ more) (simp append_assoc);
      counted = simp length-append (omega (arith, counted));
      one_line = (
        label_no_lf digit labeled,
        all-append _ gap _ (each_no_lf is_blank blank_no_lf gap blanks)
            (all-append _ prefix _ part.no_lf
            (all-append _ digits comment (each_no_lf is_hex hex_no_lf digits hex) no_lf)),
      );
      holds = sym
          (form_is ADDRESS_MAX (digit ∷ (gap ++ (prefix ++ (digits ++ comment))))
          (Din (record { label = label_of digit; addr = hex_value digits })) (
            digit,
            digits,
            comment,
            record {
              gap = gap;
              prefix = prefix;
              begins = record { lead = []; blanks = tt; whole = refl };
              labeled = labeled;
              blanks = blanks;
              some = gapped;
              all_blanks = part.no_blank;
              prefixed = part.is;
              hex = hex;
              all_hex = comment_stops comment is_comment;
            },
            some,
            fits,
            is_comment,
            refl,
          ));
    }

pub value-append : (digits : List ℕ) (byte : ℕ)
    → hex_value (digits ++ byte ∷ []) ≡ 16 * hex_value digits + digit_value byte
value-append digits byte = fold-append _ _ digits (byte ∷ [])

pub few_digits : (k : ℕ) → k ≤ 15 → 16 ^ k ≤ 2 ^ 60
few_digits k below = pow-le-pow_right {n = 16} (omega arith) below

pub one_digit_more : (k value digit : ℕ) → value + 1 ≤ 16 ^ k → digit < 16
    → 16 * value + digit + 1 ≤ 16 ^ (k + 1)
one_digit_more k value digit small below = let more : 16 ^ (k + 1) ≡ 16 * 16 ^ k =
    rw (let e : k + 1 ≡ suc k =
    omega arith in e) (pow-succ' 16 k) in omega (arith, small, below, more)
