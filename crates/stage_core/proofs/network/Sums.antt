-- A number for each item of a list: the sum of them, and the number of the last item.
use Rattle.std.proofs.Common.{◌≡◌, ℕ, ◌+◌, ◌<◌, ◌≤◌, List, [], ◌∷◌, ◌++◌, refl, ap, ◌∙◌, append-nil}
use Rattle.std.proofs.Common.{arith}

-- the sum of the numbers of the items
abbrev pub total : {A : Type 0} → (A → ℕ) → List A → ℕ
total f [] = 0
total f (x ∷ xs) = f x + total f xs

-- the sum over two lists is the sum of theirs
pub total-append : {A : Type 0} (f : A → ℕ) (xs ys : List A)
    → total f (xs ++ ys) ≡ total f xs + total f ys
total-append f [] ys = omega arith
total-append f (x ∷ xs) ys = omega (arith, total-append f xs ys)

-- the number of the last item, or d if there is none
abbrev pub last_by : {A : Type 0} → (A → ℕ) → ℕ → List A → ℕ
last_by f d [] = d
last_by f d (x ∷ []) = f x
last_by f d (x ∷ y ∷ xs) = last_by f d (y ∷ xs)

-- the last of two lists is the last of the second, where that has one
pub last_by-append : {A : Type 0} (f : A → ℕ) (d : ℕ) (xs : List A) (y : A) (ys : List A)
    → last_by f d (xs ++ y ∷ ys) ≡ last_by f d (y ∷ ys)
last_by-append f d [] y ys = refl
last_by-append f d (x ∷ []) y ys = refl
last_by-append f d (x ∷ z ∷ xs) y ys = last_by-append f d (z ∷ xs) y ys

last_by-total : {A : Type 0} (f : A → ℕ) (d : ℕ) (x : A) (xs : List A)
    → last_by f d (x ∷ xs) ≤ total f (x ∷ xs)
last_by-total f d x [] = omega arith
last_by-total f d x (y ∷ xs) = omega (arith, last_by-total f d y xs)

-- one more item in front does not make it smaller
pub last_by-more : {A : Type 0} (f : A → ℕ) (x : A) (xs : List A)
    → last_by f 0 xs ≤ last_by f 0 (x ∷ xs)
last_by-more f x [] = omega arith
last_by-more f x (y ∷ xs) = omega arith

-- where the last of each has this number, so has the last of both
pub last_by-both : {A : Type 0} (f : A → ℕ) (d k : ℕ) (xs ys : List A) → last_by f d xs ≡ k
    → last_by f d ys ≡ k → last_by f d (xs ++ ys) ≡ k
last_by-both f d k xs [] hx hy = ap (last_by f d) (append-nil xs) ∙ hx
last_by-both f d k xs (y ∷ ys) hx hy = last_by-append f d xs y ys ∙ hy

-- if the last item of the whole list counts, and no item after the first part does, nothing follows
-- the first part
pub nothing_after : {A : Type 0} (f : A → ℕ) (d : ℕ) (xs ys zs : List A) → xs ++ ys ≡ zs
    → 0 < last_by f d zs → total f ys ≡ 0 → ys ≡ []
nothing_after f d xs [] zs e l t = refl
nothing_after f d xs (y ∷ ys) zs e l t =
    absurd (omega (arith, ap (last_by f d) e, last_by-append f d xs y ys, last_by-total f d y ys))
