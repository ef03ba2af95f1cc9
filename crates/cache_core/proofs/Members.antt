-- Members of lists of numbers: one that is searched, moved to the front, or the last; and how many
-- there are.
use Rattle.std.proofs.Common.{◌≡◌, ℕ, Bool, true, false, cond, not, ◌&&◌, ◌||◌, eqb, List, [], ◌∷◌}
use Rattle.std.proofs.Common.{◌++◌, Some, None, refl, sym, ap, subst, ◌∙◌, ◌+◌, ◌≤◌, length, filter}
use Rattle.std.proofs.Common.{arith}
use Rattle.std.specs.List.{find}
use Rattle.std.proofs.lemmas.Bool.{eqb-true, false≢true, or_parts, or_from, eq-eqb, or_left}
use Rattle.std.proofs.lemmas.Bool.{or_right}
use Rattle.std.proofs.lemmas.List.Sums.{count_by-le-length, length-filter}
use Rattle.cache_core.proofs.Reuse.{has, has-filter}
use Rattle.cache_core.proofs.Shift.{without, IsOnce}
use Rattle.cache_core.proofs.Shadow.{eqb-comm}
use Rattle.cache_core.proofs.Cases.{by_cases}

-- a search for one number
pub find-one : (test : ℕ → Bool) (v : ℕ) → ((y : ℕ) → test y ≡ eqb v y) → (ms : List ℕ)
    → find test ms ≡ cond (has ms v) (Some v) None
find-one test v same [] = refl
find-one test v same (m ∷ ms) =
    by_cases (eqb m v)
    (λ e. rw (same m, eqb-comm v m, e) (ap (λ z. Some z) (eqb-true m v e)))
    (λ e. rw (same m, eqb-comm v m, e) (find-one test v same ms))

-- a search that no number passes finds none
pub find-nothing : (test : ℕ → Bool) → ((y : ℕ) → test y ≡ false) → (ms : List ℕ)
    → find test ms ≡ None
find-nothing test none [] = refl
find-nothing test none (m ∷ ms) = rw (none m) (find-nothing test none ms)

-- no test and its opposite both hold
pub and-not : (t : Bool) → (t && not t) ≡ false
and-not true = refl
and-not false = refl

-- a number is in two lists in a row if it is in one of them
pub has-append : (xs ys : List ℕ) (b : ℕ) → has (xs ++ ys) b ≡ (has xs b || has ys b)
has-append [] ys b = refl
has-append (x ∷ xs) ys b = (elim (eqb x b) as (λ t. (t || has (xs ++ ys) b)
    ≡ (t || has xs b || has ys b)) [ true ↦ refl | false ↦ has-append xs ys b ])

-- b in front and taken out behind it: the same members
pub has-moved : (b y : ℕ) (ys : List ℕ) → has ys b ≡ true → has (b ∷ without b ys) y ≡ has ys y
has-moved b y ys h = (elim (eqb b y) as (λ t. eqb b y ≡ t
    → (t || has (without b ys) y) ≡ has ys y) [
      | true ↦ λ e. sym (subst (λ z. has ys z ≡ true) (eqb-true b y e) h)
      | false ↦ λ e. has-filter (λ n. not (eqb n b)) y (ap not (eqb-comm y b ∙ e)) ys
    ]) refl

-- the last of a list in which no number stands twice
pub last-new : (xs : List ℕ) (v : ℕ) → IsOnce (xs ++ v ∷ []) → has xs v ≡ false
last-new [] v o = refl
last-new (x ∷ xs) v o = or_from (eqb x v) (has xs v) (eqb-comm x v
    ∙ (or_parts (eqb v x) false (or_parts (has xs x) (has (v ∷ []) x)
    (sym (has-append xs (v ∷ []) x) ∙ o.0)).1).0) (last-new xs v o.1)

-- what is in a front or is its last, and neither moves nor is in the front, is the last
pub only-last : (p q c : Bool) → (q ≡ true → (p ≡ false) × (c ≡ false))
    → ((p || (q || false)) && not (c || p)) ≡ q
only-last true true c h = absurd (false≢true (sym (h refl).0))
only-last false true true h = absurd (false≢true (sym (h refl).1))
only-last false true false h = refl
only-last true false true h = refl
only-last true false false h = refl
only-last false false true h = refl
only-last false false false h = refl

-- nothing is in a front and not in it
pub none-last : (p c : Bool) → (p && not (c || p)) ≡ false
none-last true true = refl
none-last true false = refl
none-last false c = refl

-- a test that holds may be left out
pub mid-true : (wb t w : Bool) → t ≡ true → (wb && t && w) ≡ (wb && w)
mid-true wb t w e = ap (λ z. wb && z && w) e
    ∙ (elim wb as (λ q. (q && true && w) ≡ (q && w)) [ true ↦ refl | false ↦ refl ])

-- a filter leaves no more
pub length-filter_le : (p : ℕ → Bool) (ys : List ℕ) → length (filter p ys) ≤ length ys
length-filter_le p ys =
    subst (λ n. n ≤ length ys) (sym (length-filter p ys)) (count_by-le-length p ys)

length-without : (x : ℕ) (ys : List ℕ) → has ys x ≡ true → length (without x ys) + 1 ≤ length ys
length-without x [] h = cc
length-without x (y ∷ ys) h = (elim (eqb y x) as (λ t. (t || has ys x) ≡ true
    → length (cond (not t) (y ∷ without x ys) (without x ys)) + 1 ≤ length (y ∷ ys)) [
      | true ↦ λ g. let le = length-filter_le (λ n. not (eqb n x)) ys in omega arith
      | false ↦ λ g. let le = length-without x ys g in omega arith
    ]) h

-- numbers that stand once, all in another list, are at most as many as that list has
pub as_many : (xs ys : List ℕ) → IsOnce xs → ((z : ℕ) → has xs z ≡ true → has ys z ≡ true)
    → length xs ≤ length ys
as_many [] ys once inside = omega arith
as_many (x ∷ xs) ys once inside =
    let le = length-without x ys (inside x (or_left (eqb x x) (has xs x) (eq-eqb x x refl))) in
    let rest = as_many xs (without x ys) once.1 (λ z h.
    has-filter (λ n. not (eqb n x)) z (ap not (apart z h)) ys
    ∙ inside z (or_right (eqb x z) (has xs z) h)) in
    omega arith
  where
    apart : (z : ℕ) → has xs z ≡ true → eqb z x ≡ false
    apart z h = (elim (eqb z x) as (λ t. eqb z x ≡ t → t ≡ false) [
      | true ↦ λ e. absurd (false≢true (sym once.0
          ∙ subst (λ v. has xs v ≡ true) (eqb-true z x e) h))
      | false ↦ λ e. refl
    ]) refl
