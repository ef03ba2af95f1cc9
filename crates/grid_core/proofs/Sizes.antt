-- The sizes of the shadows, in rising order.
use Rattle.std.proofs.Common.{◌≡◌, ℕ, zero, suc, ◌<◌, ◌==◌, true, ◌||◌, eqb, nat_eq}
use Rattle.std.proofs.Common.{List, [], ◌∷◌, length, get_or, map, refl, sym, ap, subst, ◌∙◌}
use Rattle.std.proofs.Common.{inl, inr, arith}
use Rattle.std.specs.List.{All, dedup}
use Rattle.std.specs.List.Sorted.{IsPermutation, IsSorted, IsStrictlyIncreasing}
use Rattle.std.specs.Ordering.{nat_cmp}
use Rattle.std.proofs.lemmas.Bool.{eqb-true, eq-eqb, or_cases, or_left, or_right}
use Rattle.std.proofs.lemmas.List.Elements.{All-nil, All-cons, All-head, All-tail, All-map}
use Rattle.std.proofs.lemmas.Map.Keys.{IsStrictlyIncreasing-dedup}
use Rattle.cache_core.specs.declared.geometry.Geometry.{Geometry}
use Rattle.cache_core.specs.Geometry.{blocks_of}
use Rattle.cache_core.proofs.Rising.{has-permutation, has-dedup}
use Rattle.cache_core.proofs.Rising.{same-rising, rises-rising, has-rising}
use Rattle.cache_core.specs.Dirty.{rising}
use Rattle.cache_core.proofs.Reuse.{has}
use Rattle.cache_core.proofs.Cases.{by_cases}
use Rattle.cache_core.proofs.Lawful.{sane_of}
use Rattle.marked_list.specs.Recency.{index_of}
use Rattle.grid_core.specs.Shapes.{has_size}

-- a list that is its own rising list rises
pub rising-is : (xs : List ℕ) → rising xs ≡ xs → IsStrictlyIncreasing xs
rising-is xs e = subst IsStrictlyIncreasing e (rises-rising xs)

has-get : (xs : List ℕ) (k d : ℕ) → k < length xs → has xs (get_or xs k d) ≡ true
has-get [] k d lt = absurd (omega arith)
has-get (x ∷ xs) zero d lt = or_left (eqb x x) (has xs x) (eq-eqb x x refl)
has-get (x ∷ xs) (suc k) d lt = or_right (eqb x (get_or xs k d)) (has xs (get_or xs k d))
    (has-get xs k d (omega arith))

all-has : (P : ℕ → Type 0) (xs : List ℕ) → All P xs → (z : ℕ) → has xs z ≡ true → P z
all-has P [] all z h = cc
all-has P (x ∷ xs) all z h = elim (or_cases (eqb x z) (has xs z) h) [
  | inl e ↦ subst P (eqb-true x z e) (All-head P x xs all)
  | inr t ↦ all-has P xs (All-tail P x xs all) z t
]

has-block : (gs : List Geometry)
    → All (λ g. has (map (λ v. blocks_of v) gs) (blocks_of g) ≡ true) gs
has-block [] = All-nil (λ g. has (map (λ v. blocks_of v) []) (blocks_of g) ≡ true)
has-block (g ∷ gs) =
    let P : Geometry → Type 0 = λ w. has (map (λ v. blocks_of v) (g ∷ gs)) (blocks_of w) ≡ true in
    All-cons P g gs
    (or_left (eqb (blocks_of g) (blocks_of g)) (has (map (λ v. blocks_of v) gs) (blocks_of g))
    (eq-eqb (blocks_of g) (blocks_of g) refl))
    (λ k d lt. or_right (eqb (blocks_of g) (blocks_of (get_or gs k d)))
    (has (map (λ v. blocks_of v) gs) (blocks_of (get_or gs k d))) (has-block gs k d lt))

-- the sorted numbers of blocks, each once
module _ (gs : List Geometry) (xs ys : List ℕ) (is : xs ≡ map (λ g. blocks_of g) gs)
    (p : IsPermutation xs ys) (s : IsSorted nat_cmp ys) where
  pub sizes-rise : rising (dedup nat_eq ys) ≡ dedup nat_eq ys
  sizes-rise = same-rising (rising (dedup nat_eq ys)) (dedup nat_eq ys)
      (rises-rising (dedup nat_eq ys)) (IsStrictlyIncreasing-dedup ys s)
      (has-rising (dedup nat_eq ys))

  same : (z : ℕ) → has (dedup nat_eq ys) z ≡ has (map (λ g. blocks_of g) gs) z
  same z = has-dedup ys z ∙ has-permutation xs ys z p ∙ ap (λ l. has l z) is

  pub sizes-some : All (λ size. 0 < size) (dedup nat_eq ys)
  sizes-some k d lt = all-has (λ size. 0 < size) (map (λ g. blocks_of g) gs)
      (All-map (λ size. 0 < size) (λ g. blocks_of g) gs (λ j e l. (sane_of
      (get_or gs j e)).blocks_pos))
      (get_or (dedup nat_eq ys) k d)
      (sym (same (get_or (dedup nat_eq ys) k d)) ∙ has-get (dedup nat_eq ys) k d lt)

  pub sizes-all : All (λ g. has_size (dedup nat_eq ys) (blocks_of g) ≡ true) gs
  sizes-all k d lt = same (blocks_of (get_or gs k d)) ∙ has-block gs k d lt

-- a size that is among the sizes stands at its index
pub index-inside : (xs : List ℕ) (z : ℕ) → has_size xs z ≡ true
    → index_of (λ m. m == z) xs < length xs
index-inside [] z h = cc
index-inside (x ∷ xs) z h = by_cases (eqb x z)
    (λ e. rw e (omega arith))
    (λ e. let rest = index-inside xs z (sym (ap (λ t. t || has xs z) e) ∙ h) in rw e (omega arith))

pub index-found : (xs : List ℕ) (z : ℕ) → has_size xs z ≡ true
    → get_or xs (index_of (λ m. m == z) xs) 0 ≡ z
index-found [] z h = cc
index-found (x ∷ xs) z h = by_cases (eqb x z)
    (λ e. rw e (eqb-true x z e))
    (λ e. let rest = index-found xs z (sym (ap (λ t. t || has xs z) e) ∙ h) in rw e rest)
