-- A row of numbers in which none stands twice: one more at its end, or one in the place of another;
-- and rows of one length, one after another in one list.
use Rattle.std.proofs.Common.{◌≡◌, ◌≢◌, ℕ, zero, suc, ◌+◌, ◌*◌, ◌<◌, ◌≤◌, Bool, true, false, not}
use Rattle.std.proofs.Common.{◌&&◌, ◌||◌, eqb, List, [], ◌∷◌, ◌++◌, length, get_or, take, drop, set}
use Rattle.std.proofs.Common.{inl, inr, refl, sym, ap, subst, ◌∙◌, length-drop, arith}
use Rattle.std.proofs.Math.Nat.{mul-le-mul_right}
use Rattle.std.proofs.lemmas.Bool.{eqb-true, eq-eqb, false≢true, or_parts, or_from, or_left}
use Rattle.std.proofs.lemmas.Bool.{or_right, and_left, false_from_ne_true, cases_order}
use Rattle.std.proofs.lemmas.List.{take-take, take_more_set, take-set-le, drop-take}
use Rattle.std.proofs.lemmas.List.{drop-set-add, drop-set-lt}
use Rattle.cache_core.specs.Row.{row}
use Rattle.cache_core.proofs.Reuse.{has}
use Rattle.cache_core.proofs.Shift.{IsOnce}
use Rattle.cache_core.proofs.Shadow.{eqb-comm}
use Rattle.cache_core.proofs.Members.{has-append}

-- what is read from a list is in it
pub has-get_or : (xs : List ℕ) (i d : ℕ) → i < length xs → has xs (get_or xs i d) ≡ true
has-get_or [] i d l = absurd (omega arith)
has-get_or (x ∷ xs) zero d l = or_left (eqb x x) (has xs x) (eq-eqb x x refl)
has-get_or (x ∷ xs) (suc i) d l =
    or_right (eqb x (get_or xs i d)) (has xs (get_or xs i d)) (has-get_or xs i d (omega arith))

-- a number that is not in a list differs from each that is
pub other-member : (xs : List ℕ) (n y : ℕ) → has xs n ≡ false → has xs y ≡ true → eqb n y ≡ false
other-member xs n y none there = false_from_ne_true (eqb n y) (λ e.
    false≢true (sym none ∙ subst (λ z. has xs z ≡ true) (sym (eqb-true n y e)) there))

or-swap : (p q : Bool) → (p || (q || false)) ≡ (q || p)
or-swap true true = refl
or-swap true false = refl
or-swap false true = refl
or-swap false false = refl

-- a new number at the end
pub IsOnce-added : (xs : List ℕ) (n : ℕ) → IsOnce xs → has xs n ≡ false → IsOnce (xs ++ n ∷ [])
IsOnce-added [] n o none = (refl, tt)
IsOnce-added (x ∷ xs) n o none = let parts = or_parts (eqb x n) (has xs n) none in (
  has-append xs (n ∷ []) x ∙ or_from (has xs x) (eqb n x || false) o.0
      (or_from (eqb n x) false (eqb-comm n x ∙ parts.0) refl),
  IsOnce-added xs n o.1 parts.1,
)

pub has-added : (xs : List ℕ) (n y : ℕ) → has (xs ++ n ∷ []) y ≡ (eqb n y || has xs y)
has-added xs n y = has-append xs (n ∷ []) y ∙ or-swap (has xs y) (eqb n y)

first-gone : (p a : Bool) → (a ≡ true → p ≡ false) → p ≡ ((a || p) && not a)
first-gone true true h = h refl
first-gone false true h = refl
first-gone true false h = refl
first-gone false false h = refl

later-gone : (a q p v : Bool) → (a ≡ true → v ≡ false)
    → (a || (q || (p && not v))) ≡ (q || ((a || p) && not v))
later-gone true true p v h = refl
later-gone true false p true h = absurd (false≢true (sym (h refl)))
later-gone true false p false h = refl
later-gone false q p v h = refl

-- a new number in the place of another
pub has-set : (xs : List ℕ) (i n y : ℕ) → IsOnce xs → i < length xs
    → has (set xs i n) y ≡ (eqb n y || (has xs y && not (eqb (get_or xs i 0) y)))
has-set [] i n y o l = absurd (omega arith)
has-set (x ∷ xs) zero n y o l = ap (λ t. eqb n y || t) (first-gone (has xs y) (eqb x y) (λ e.
    subst (λ z. has xs z ≡ false) (eqb-true x y e) o.0))
has-set (x ∷ xs) (suc i) n y o l = let v = get_or xs i 0 in
    ap (λ t. eqb x y || t) (has-set xs i n y o.1 (omega arith))
    ∙ later-gone (eqb x y) (eqb n y) (has xs y) (eqb v y) (λ e. let same : x ≡ y = eqb-true x y e in
    eqb-comm v y ∙ other-member xs y v (subst (λ z. has xs z ≡ false) same o.0)
    (has-get_or xs i 0 (omega arith)))

pub IsOnce-set : (xs : List ℕ) (i n : ℕ) → IsOnce xs → i < length xs → has xs n ≡ false
    → IsOnce (set xs i n)
IsOnce-set [] i n o l none = absurd (omega arith)
IsOnce-set (x ∷ xs) zero n o l none = ((or_parts (eqb x n) (has xs n) none).1, o.1)
IsOnce-set (x ∷ xs) (suc i) n o l none = let parts = or_parts (eqb x n) (has xs n) none in (
  has-set xs i n x o.1 (omega arith)
      ∙ or_from (eqb n x) (has xs x && not (eqb (get_or xs i 0) x)) (eqb-comm n x ∙ parts.0)
      (and_left (has xs x) (not (eqb (get_or xs i 0) x)) o.0),
  IsOnce-set xs i n o.1 (omega arith) parts.1,
)

module _ {X : Type 0} (n s : ℕ) (xs : List X) (v : X) where
  -- a number put behind the first of a row
  pub row-add : (k : ℕ) → k < n → (s + 1) * n ≤ length xs
      → take (k + 1) (row n s (set xs (s * n + k) v)) ≡ take k (row n s xs) ++ v ∷ []
  row-add k low long =
      ap (λ l. take (k + 1) (take n l)) (drop-set-add (s * n) xs k v)
      ∙ take-take (k + 1) n (set (drop (s * n) xs) k v) (omega arith)
      ∙ take_more_set (drop (s * n) xs) k v (omega (arith, length-drop (s * n) xs))
      ∙ ap (λ l. l ++ v ∷ []) (sym (take-take k n (drop (s * n) xs) (omega arith)))

  below : (t : ℕ) → s < t → (s + 1) * n ≤ t * n
  below t h = mul-le-mul_right n (omega arith)

  above : (t : ℕ) → t < s → (t + 1) * n ≤ s * n
  above t h = mul-le-mul_right n (omega arith)

  -- the other rows are as before
  pub row-set_other : (i t : ℕ) → i < n → t ≢ s → row n t (set xs (s * n + i) v) ≡ row n t xs
  row-set_other i t low apart = elim (cases_order t s) [
    | inl same ↦ absurd (apart same)
    | inr d ↦ elim d [
      | inl h ↦ let le = above t h in
          sym (drop-take (t * n) n (set xs (s * n + i) v))
          ∙ ap (drop (t * n)) (take-set-le (t * n + n) xs (s * n + i) v (omega arith))
          ∙ drop-take (t * n) n xs
      | inr h ↦ let le = below t h in
          ap (take n) (drop-set-lt (t * n) xs (s * n + i) v (omega arith))
    ]
  ]
