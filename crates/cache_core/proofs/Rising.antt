-- Two strictly rising lists with the same members are equal.
use Rattle.std.proofs.Common.{◌≡◌, ℕ, zero, suc, ◌+◌, ◌*◌, ◌<◌, ◌≤◌, Bool, true, false, cond, ◌||◌}
use Rattle.std.proofs.Common.{eqb, ltb, List, [], ◌∷◌, length, map, get_or, Contains, refl, sym, ap}
use Rattle.std.proofs.Common.{subst, ◌∙◌, inl, inr, arith}
use Rattle.std.specs.List.{dedup}
use Rattle.std.specs.List.Sorted.{IsPermutation, IsStrictlyIncreasing}
use Rattle.std.proofs.Math.Nat.{mul-le-mul_right}
use Rattle.std.proofs.lemmas.Bool.{eqb-true, eq-eqb, eqb-false, false≢true, or_left, or_right}
use Rattle.std.proofs.lemmas.Bool.{or_cases, false_from_ne_true, ltb-true, ltb-false}
use Rattle.std.proofs.lemmas.List.Sorted.{Contains-permutation, IsPermutation-sym}
use Rattle.std.proofs.lemmas.List.Kept.{AllPairs-from_increasing, Contains-dedup_nat}
use Rattle.std.proofs.lemmas.List.Kept.{Contains-from_dedup}
use Rattle.std.proofs.lemmas.List.{get_or-map, length-map}
use Rattle.cache_core.specs.Dirty.{inserted, rising}
use Rattle.cache_core.proofs.Reuse.{has}
use Rattle.cache_core.proofs.Cases.{by_cases}

-- two tests, each of which implies the other, are equal
pub same_test : (a b : Bool) → (a ≡ true → b ≡ true) → (b ≡ true → a ≡ true) → a ≡ b
same_test true b f g = sym (f refl)
same_test false true f g = g refl
same_test false false f g = refl

-- `has` and `Contains` say the same
contains-has : (xs : List ℕ) (z : ℕ) → has xs z ≡ true → Contains xs z
contains-has [] z h = cc
contains-has (x ∷ xs) z h = elim (or_cases (eqb x z) (has xs z) h) [
  | inl e ↦ (0, omega arith, eqb-true x z e)
  | inr t ↦ let c = contains-has xs z t in (suc c.0, (let l = c.1 in omega arith), c.2)
]

-- the first of a rising list is below each other member
first-below : (x : ℕ) (ys : List ℕ) → IsStrictlyIncreasing (x ∷ ys) → (z : ℕ) → has ys z ≡ true
    → x < z
first-below x ys r z h = let c = contains-has ys z h in
    subst (λ v. x < v) c.2 (AllPairs-from_increasing (x ∷ ys) r zero (suc c.0) z (omega arith)
    (let l = c.1 in omega arith))

-- and the others rise
pub rest-rises : (x : ℕ) (ys : List ℕ) → IsStrictlyIncreasing (x ∷ ys) → IsStrictlyIncreasing ys
rest-rises x ys r k l =
    AllPairs-from_increasing (x ∷ ys) r (suc k) (suc (k + 1)) 0 (omega arith) (omega arith)

-- a rising list rises from a number before it that is below all its members
rises-after : (x : ℕ) (ys : List ℕ) → ((z : ℕ) → has ys z ≡ true → x < z)
    → IsStrictlyIncreasing ys → IsStrictlyIncreasing (x ∷ ys)
rises-after x [] below r k l = absurd (omega arith)
rises-after x (y ∷ ys) below r zero l = below y (or_left (eqb y y) (has ys y) (eq-eqb y y refl))
rises-after x (y ∷ ys) below r (suc k) l = let e : suc (k + 1) ≡ suc k + 1 = omega arith in
    subst (λ n. get_or (y ∷ ys) k 0 < get_or (x ∷ y ∷ ys) n 0) e (r k (omega arith))

-- the first of a rising list is not in it again
pub not-itself : (x : ℕ) (ys : List ℕ) → IsStrictlyIncreasing (x ∷ ys) → has ys x ≡ false
not-itself x ys r = false_from_ne_true (has ys x) (λ h. let lt = first-below x ys r x h in
    absurd (omega arith))

-- two rising lists with the same members are the same list
pub same-rising : (xs ys : List ℕ) → IsStrictlyIncreasing xs → IsStrictlyIncreasing ys
    → ((z : ℕ) → has xs z ≡ has ys z) → xs ≡ ys
same-rising [] [] a b same = refl
same-rising [] (y ∷ ys) a b same =
    absurd (false≢true (same y ∙ or_left (eqb y y) (has ys y) (eq-eqb y y refl)))
same-rising (x ∷ xs) [] a b same =
    absurd (false≢true (sym (same x) ∙ or_left (eqb x x) (has xs x) (eq-eqb x x refl)))
same-rising (x ∷ xs) (y ∷ ys) a b same =
    let in_y : (eqb y x || has ys x) ≡ true = sym (same x)
    ∙ or_left (eqb x x) (has xs x) (eq-eqb x x refl) in
    let in_x : (eqb x y || has xs y) ≡ true = same y
    ∙ or_left (eqb y y) (has ys y) (eq-eqb y y refl) in
    let head : x ≡ y = elim (or_cases (eqb y x) (has ys x) in_y) [
      | inl e ↦ sym (eqb-true y x e)
      | inr t ↦ elim (or_cases (eqb x y) (has xs y) in_x) [
        | inl e ↦ eqb-true x y e
        | inr u ↦ let up = first-below y ys b x t in let down = first-below x xs a y u in
            absurd (omega arith)
      ]
    ] in
    let tails : (z : ℕ) → has xs z ≡ has ys z = λ z.
    by_cases (eqb x z)
    (λ e. let here : x ≡ z = eqb-true x z e in
    subst (λ v. has xs v ≡ false) here (not-itself x xs a)
    ∙ sym (subst (λ v. has ys v ≡ false) (sym head ∙ here) (not-itself y ys b)))
    (λ e. let whole : (eqb x z || has xs z) ≡ (eqb y z || has ys z) = same z in
    let other : eqb y z ≡ false = subst (λ v. eqb v z ≡ false) head e in
    sym (ap (λ t. t || has xs z) e) ∙ whole ∙ ap (λ t. t || has ys z) other) in
    ap (λ v. v ∷ xs) head ∙ ap (λ l. y ∷ l)
    (same-rising xs ys (rest-rises x xs a) (rest-rises y ys b) tails)

swap-left : (a b c : Bool) → (a || (b || c)) ≡ (b || (a || c))
swap-left true true c = refl
swap-left true false c = refl
swap-left false true c = refl
swap-left false false c = refl

-- the first of two alternatives may be said twice
pub once-more : (a c : Bool) → (a || c) ≡ (a || (a || c))
once-more true c = refl
once-more false c = refl

has-inserted : (x : ℕ) (ys : List ℕ) (z : ℕ) → has (inserted x ys) z ≡ (eqb x z || has ys z)
has-inserted x [] z = refl
has-inserted x (y ∷ ys) z = (elim (ltb x y) as (λ t.
    has (cond t (x ∷ y ∷ ys) (cond (eqb x y) (y ∷ ys) (y ∷ inserted x ys))) z
    ≡ (eqb x z || has (y ∷ ys) z)) [
      | true ↦ refl
      | false ↦ (elim (eqb x y) as (λ t. eqb x y ≡ t
          → has (cond t (y ∷ ys) (y ∷ inserted x ys)) z ≡ (eqb x z || has (y ∷ ys) z)) [
            | true ↦ λ e. once-more (eqb y z) (has ys z)
                ∙ ap (λ v. eqb v z || (eqb y z || has ys z)) (sym (eqb-true x y e))
            | false ↦ λ e. ap (λ t. eqb y z || t) (has-inserted x ys z)
                ∙ swap-left (eqb y z) (eqb x z) (has ys z)
          ]) refl
    ])

-- a rising list in which a number is inserted rises
rises-inserted : (x : ℕ) (ys : List ℕ) → IsStrictlyIncreasing ys
    → IsStrictlyIncreasing (inserted x ys)
rises-inserted x [] r = rises-after x [] (λ z h. absurd (false≢true h)) r
rises-inserted x (y ∷ ys) r = (elim (ltb x y) as (λ t. ltb x y ≡ t
    → IsStrictlyIncreasing (cond t (x ∷ y ∷ ys) (cond (eqb x y) (y ∷ ys) (y ∷ inserted x ys)))) [
      | true ↦ λ e. let l = ltb-true x y e in
          rises-after x (y ∷ ys) (λ z h. elim (or_cases (eqb y z) (has ys z) h) [
            | inl s ↦ subst (λ v. x < v) (eqb-true y z s) l
            | inr t ↦ let up = first-below y ys r z t in omega arith
          ]) r
      | false ↦ λ e. (elim (eqb x y) as (λ t. eqb x y ≡ t
          → IsStrictlyIncreasing (cond t (y ∷ ys) (y ∷ inserted x ys))) [
            | true ↦ λ f. r
            | false ↦ λ f. let le = ltb-false x y e in let ne = eqb-false x y f in
                rises-after y (inserted x ys) (λ z h.
                elim (or_cases (eqb x z) (has ys z) (sym (has-inserted x ys z) ∙ h)) [
                  | inl s ↦ subst (λ v. y < v) (eqb-true x z s) (omega arith)
                  | inr t ↦ first-below y ys r z t
                ]) (rises-inserted x ys (rest-rises y ys r))
          ]) refl
    ]) refl

-- `rising` makes a list that rises
pub rises-rising : (xs : List ℕ) → IsStrictlyIncreasing (rising xs)
rises-rising [] = λ k l. absurd (omega arith)
rises-rising (x ∷ xs) = rises-inserted x (rising xs) (rises-rising xs)

-- with the same members
pub has-rising : (xs : List ℕ) (z : ℕ) → has (rising xs) z ≡ has xs z
has-rising [] z = refl
has-rising (x ∷ xs) z = has-inserted x (rising xs) z ∙ ap (λ t. eqb x z || t) (has-rising xs z)

-- the multiples of a rising list rise
pub rises-times : (n : ℕ) (xs : List ℕ) → 0 < n → IsStrictlyIncreasing xs
    → IsStrictlyIncreasing (map (λ b. b * n) xs)
rises-times n xs p r k l =
    let long = length-map xs (λ b. b * n) in
    let x = get_or xs k 0 in
    let y = get_or xs (k + 1) 0 in
    let lt : x < y = r k (omega arith) in
    let m : (x + 1) * n ≤ y * n = mul-le-mul_right n (omega arith) in
    let a : get_or (map (λ b. b * n) xs) k 0 ≡ x * n =
    get_or-map (λ b. b * n) xs k 0 0 (omega arith) in
    let b : get_or (map (λ b. b * n) xs) (k + 1) 0 ≡ y * n =
    get_or-map (λ b. b * n) xs (k + 1) 0 0 (omega arith) in
    omega arith

-- what stands at an index is a member
pub has-at : (xs : List ℕ) (z k : ℕ) → k < length xs → get_or xs k z ≡ z → has xs z ≡ true
has-at [] z k l e = absurd (omega arith)
has-at (x ∷ xs) z zero l e = or_left (eqb x z) (has xs z) (eq-eqb x z e)
has-at (x ∷ xs) z (suc k) l e = or_right (eqb x z) (has xs z) (has-at xs z k (omega arith) e)

has-contains : (xs : List ℕ) (z : ℕ) → Contains xs z → has xs z ≡ true
has-contains xs z c = has-at xs z c.0 c.1 c.2

-- a permutation has the same members
pub has-permutation : (xs ys : List ℕ) (z : ℕ) → IsPermutation xs ys → has ys z ≡ has xs z
has-permutation xs ys z p = same_test (has ys z) (has xs z)
    (λ h. has-contains xs z (Contains-permutation ys xs z (IsPermutation-sym xs ys p)
    (contains-has ys z h)))
    (λ h. has-contains ys z (Contains-permutation xs ys z p (contains-has xs z h)))

-- so has a list without its repetitions
pub has-dedup : (xs : List ℕ) (z : ℕ) → has (dedup eqb xs) z ≡ has xs z
has-dedup xs z = same_test (has (dedup eqb xs) z) (has xs z)
    (λ h. has-contains xs z (Contains-from_dedup eqb xs z (contains-has (dedup eqb xs) z h)))
    (λ h. has-contains (dedup eqb xs) z (Contains-dedup_nat xs z (contains-has xs z h)))
