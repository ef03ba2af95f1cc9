-- Blocks are numbered by their places in a list.
use Rattle.std.proofs.Common.{◌≡◌, ℕ, suc, ◌+◌, ◌<◌, Bool, true, false, cond, not, eqb, ltb}
use Rattle.std.proofs.Common.{List, [], ◌∷◌, ◌++◌, length, get_or, Some, None}
use Rattle.std.proofs.Common.{length-append, unwrap_or}
use Rattle.std.proofs.Common.{refl, sym, ap, subst, ◌∙◌, arith}
use Rattle.std.specs.Prelude.{nat_eq}
use Rattle.std.specs.List.{position_or_len}
use Rattle.std.proofs.lemmas.Bool.{eqb-true, lt-ltb, ltb-true}
use Rattle.std.proofs.lemmas.List.Folds.{list_any_at}
use Rattle.std.proofs.lemmas.List.Quantifiers.{position-Some}
use Rattle.cache_core.specs.Lists.{IsBeginning}
use Rattle.grid_core.specs.declared.at_hand.Entry.{Entry}
use Rattle.grid_core.specs.AtHand.{HaveRightNumbers}
use Rattle.grid_core.specs.Numbers.{number_at, with_number}

-- the place of b, or the length of the list
abbrev place : ℕ → List ℕ → ℕ
place b xs = position_or_len (eqb b) xs

found : (t : Bool) (p n : ℕ) → cond t (Some p) None ≡ Some n → (t ≡ true) × (p ≡ n)
found true p n e = (refl, ap (λ o. unwrap_or o 0) e)
found false p n e = absurd cc

-- a number is a place in the list
pub number-low : (xs : List ℕ) (b n : ℕ) → number_at xs b ≡ Some n → n < length xs
number-low xs b n e =
    let is = found (ltb (place b xs) (length xs)) (place b xs) n e in
    let lt = ltb-true (place b xs) (length xs) is.0 in
    let same = is.1 in
    omega arith

same-place : (a b : ℕ) (xs : List ℕ) → place a xs < length xs → place a xs ≡ place b xs → a ≡ b
same-place a b [] lt e = absurd (omega arith)
same-place a b (x ∷ xs) lt e = (elim (eqb a x) as (λ t. eqb a x ≡ t
    → cond (not t) (1 + place a xs) 0 < suc (length xs)
    → cond (not t) (1 + place a xs) 0 ≡ place b (x ∷ xs) → a ≡ b) [
      | true ↦ λ f. (elim (eqb b x) as (λ u. eqb b x ≡ u → 0 < suc (length xs)
          → 0 ≡ cond (not u) (1 + place b xs) 0 → a ≡ b) [
            | true ↦ λ g below same. eqb-true a x f ∙ sym (eqb-true b x g)
            | false ↦ λ g below same. absurd (omega arith)
          ]) refl
      | false ↦ λ f. (elim (eqb b x) as (λ u. eqb b x ≡ u → 1 + place a xs < suc (length xs)
          → 1 + place a xs ≡ cond (not u) (1 + place b xs) 0 → a ≡ b) [
            | true ↦ λ g below same. absurd (omega arith)
            | false ↦ λ g below same. same-place a b xs (omega arith) (omega arith)
          ]) refl
    ]) refl lt e

-- a block that has a number gets no other
pub with-known : (xs : List ℕ) (b n : ℕ) → number_at xs b ≡ Some n → xs ≡ with_number b xs
with-known xs b n e =
    let at = position-Some (nat_eq b) xs n 0 e in
    let is = list_any_at (nat_eq b) xs n 0 at.0 at.1 in
    rw is refl

-- no two blocks have one number
pub number-apart : (xs : List ℕ) (a b n : ℕ) → number_at xs a ≡ Some n → number_at xs b ≡ Some n
    → a ≡ b
number-apart xs a b n e f =
    let first = found (ltb (place a xs) (length xs)) (place a xs) n e in
    let second = found (ltb (place b xs) (length xs)) (place b xs) n f in
    same-place a b xs (ltb-true (place a xs) (length xs) first.0) (first.1 ∙ sym second.1)

-- a block of the first list has the same number in a list that goes on
pub number-kept : (xs ys : List ℕ) (b n : ℕ) → number_at xs b ≡ Some n
    → number_at (xs ++ ys) b ≡ Some n
number-kept xs ys b n e =
    let is = found (ltb (place b xs) (length xs)) (place b xs) n e in
    let lt = ltb-true (place b xs) (length xs) is.0 in
    let same = place-kept xs ys b lt in
    let longer = length-append xs ys in
    ap (λ p. cond (ltb p (length (xs ++ ys))) (Some p) None) same
    ∙ ap (λ t. cond t (Some (place b xs)) None)
    (lt-ltb (place b xs) (length (xs ++ ys)) (omega arith))
    ∙ ap Some is.1
  where
    place-kept : (xs ys : List ℕ) (b : ℕ) → place b xs < length xs
        → place b (xs ++ ys) ≡ place b xs
    place-kept [] ys b lt = absurd (omega arith)
    place-kept (x ∷ xs) ys b lt = (elim (eqb b x) as (λ t.
        cond (not t) (1 + place b xs) 0 < suc (length xs)
        → cond (not t) (1 + place b (xs ++ ys)) 0 ≡ cond (not t) (1 + place b xs) 0) [
          | true ↦ λ below. refl
          | false ↦ λ below. ap (λ n. 1 + n) (place-kept xs ys b (omega arith))
        ]) lt

-- a low number in a list that goes on is one in the first list
pub number-low-kept : (xs ys : List ℕ) (b n : ℕ) → number_at (xs ++ ys) b ≡ Some n
    → n < length xs → number_at xs b ≡ Some n
number-low-kept xs ys b n e low =
    let is = found (ltb (place b (xs ++ ys)) (length (xs ++ ys))) (place b (xs ++ ys)) n e in
    let same = place-low xs ys b (let p = is.1 in omega arith) in
    let p = is.1 in
    ap (λ t. cond t (Some (place b xs)) None)
    (lt-ltb (place b xs) (length xs) (omega arith))
    ∙ ap Some (sym same ∙ is.1)
  where
    place-low : (xs ys : List ℕ) (b : ℕ) → place b (xs ++ ys) < length xs
        → place b (xs ++ ys) ≡ place b xs
    place-low [] ys b lt = absurd (omega arith)
    place-low (x ∷ xs) ys b lt = (elim (eqb b x) as (λ t.
        cond (not t) (1 + place b (xs ++ ys)) 0 < suc (length xs)
        → cond (not t) (1 + place b (xs ++ ys)) 0 ≡ cond (not t) (1 + place b xs) 0) [
          | true ↦ λ below. refl
          | false ↦ λ below. ap (λ n. 1 + n) (place-low xs ys b (omega arith))
        ]) lt

-- what is kept of the numbers stays right in a list that goes on
pub right-kept : (xs ys : List ℕ) (es : List Entry) → IsBeginning xs ys
    → HaveRightNumbers (number_at xs) es → HaveRightNumbers (number_at ys) es
right-kept xs ys es on all k d lt =
    let e = get_or es k d in
    record {
      number = λ some. subst (λ l. number_at l e.block ≡ Some e.number) (sym on.1)
          (number-kept xs on.0 e.block e.number ((all k d lt).number some));
    }
