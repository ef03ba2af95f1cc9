-- Lists of blocks, and the lists of their numbers.
use Rattle.std.proofs.Common.{Bool, ◌≡◌, ℕ, true, false, not, ◌&&◌, eqb, List, [], ◌∷◌, map}
use Rattle.std.proofs.Common.{inl, inr, refl, sym, ap, subst, ◌∙◌}
use Rattle.std.proofs.lemmas.Bool.{eqb-true, eq-eqb, ne_eqb, false≢true, and_parts, and_from}
use Rattle.std.proofs.lemmas.Bool.{or_cases, or_left, or_right, false_from_ne_true}
use Rattle.cache_core.proofs.Rising.{same_test}
use Rattle.cache_core.proofs.Cases.{by_cases}
use Rattle.cache_core.proofs.Reuse.{has, has-filter}
use Rattle.cache_core.proofs.Shift.{without, has-filter_not}

-- what is and false, and what is and true
pub none : (p : Bool) → (p && false) ≡ false
none true = refl
none false = refl

pub all : (p : Bool) → (p && true) ≡ p
all true = refl
all false = refl

-- a list without one block has the others
pub has-without : (v y : ℕ) (zs : List ℕ) → has (without v zs) y ≡ (has zs y && not (eqb v y))
has-without v y zs = by_cases (eqb v y)
    (λ e. has-filter_not (λ n. not (eqb n v)) y
    (ap not (eq-eqb y v (sym (eqb-true v y e)))) zs
    ∙ sym (ap (λ t. has zs y && not t) e ∙ none (has zs y)))
    (λ e. has-filter (λ n. not (eqb n v)) y
    (ap not (ne_eqb y v (λ same. false≢true (sym e ∙ eq-eqb v y (sym same))))) zs
    ∙ sym (ap (λ t. has zs y && not t) e ∙ all (has zs y)))

module _ (f : ℕ → ℕ) where
  -- the number of a block of a list is in the list of the numbers
  pub number-there : (zs : List ℕ) (z : ℕ) → has zs z ≡ true → has (map f zs) (f z) ≡ true
  number-there [] z there = absurd (false≢true there)
  number-there (y ∷ zs) z there = elim (or_cases (eqb y z) (has zs z) there) [
    | inl e ↦ or_left (eqb (f y) (f z)) (has (map f zs) (f z))
        (eq-eqb (f y) (f z) (ap f (eqb-true y z e)))
    | inr t ↦ or_right (eqb (f y) (f z)) (has (map f zs) (f z)) (number-there zs z t)
  ]

  -- and each of these is the number of a block of the list
  pub number-found : (zs : List ℕ) (q : ℕ) → has (map f zs) q ≡ true
      → (z : ℕ) × (has zs z ≡ true) × (f z ≡ q)
  number-found [] q there = absurd (false≢true there)
  number-found (y ∷ zs) q there = elim (or_cases (eqb (f y) q) (has (map f zs) q) there) [
    | inl e ↦ (y, or_left (eqb y y) (has zs y) (eq-eqb y y refl), eqb-true (f y) q e)
    | inr t ↦ let z = number-found zs q t in
        (z.0, or_right (eqb y z.0) (has zs z.0) z.1, z.2)
  ]

  -- lists of the same blocks have the same numbers
  pub same-numbers : (zs ws : List ℕ) → ((y : ℕ) → has zs y ≡ has ws y) → (q : ℕ)
      → has (map f zs) q ≡ has (map f ws) q
  same-numbers zs ws same q = same_test (has (map f zs) q) (has (map f ws) q)
      (λ t. let z = number-found zs q t in
      subst (λ n. has (map f ws) n ≡ true) z.2 (number-there ws z.0 (sym (same z.0) ∙ z.1)))
      (λ t. let z = number-found ws q t in
      subst (λ n. has (map f zs) n ≡ true) z.2 (number-there zs z.0 (same z.0 ∙ z.1)))

  -- without one block, its number is not in the list, if no other block has it
  pub number-gone : (zs : List ℕ) (v : ℕ)
      → ((z : ℕ) → has zs z ≡ true → f v ≡ f z → v ≡ z) → (q : ℕ)
      → has (map f (without v zs)) q ≡ (has (map f zs) q && not (eqb (f v) q))
  number-gone zs v apart q = same_test (has (map f (without v zs)) q)
      (has (map f zs) q && not (eqb (f v) q))
      (λ t. let z = number-found (without v zs) q t in
      let kept = has-without z.0 z.1 in
      and_from (has (map f zs) q) (not (eqb (f v) q))
      (subst (λ n. has (map f zs) n ≡ true) z.2 (number-there zs z.0 kept.0))
      (ap not (false_from_ne_true (eqb (f v) q) (λ e. false≢true (sym kept.1
      ∙ eq-eqb z.0 v (sym (apart z.0 kept.0 (eqb-true (f v) q e ∙ sym z.2))))))))
      (λ t. let parts = and_parts (has (map f zs) q) (not (eqb (f v) q)) t in
      let z = number-found zs q parts.0 in
      subst (λ n. has (map f (without v zs)) n ≡ true) z.2 (number-there (without v zs) z.0
      (has-filter (λ n. not (eqb n v)) z.0 (ap not (ne_eqb z.0 v (λ same. false≢true
      (sym (ap not (eq-eqb (f v) q (ap f (sym same) ∙ z.2))) ∙ parts.1)))) zs ∙ z.1)))
    where
      has-without : (z : ℕ) → has (without v zs) z ≡ true
          → (has zs z ≡ true) × (eqb z v ≡ false)
      has-without z there = by_cases (eqb z v)
          (λ e. absurd (false≢true (sym (has-filter_not (λ n. not (eqb n v)) z (ap not e) zs)
          ∙ there)))
          (λ e. (sym (has-filter (λ n. not (eqb n v)) z (ap not e) zs) ∙ there, e))

-- two ways to number that agree on a list give it the same numbers
pub same-by : (f g : ℕ → ℕ) (zs : List ℕ) → ((z : ℕ) → has zs z ≡ true → f z ≡ g z)
    → map f zs ≡ map g zs
same-by f g [] same = refl
same-by f g (z ∷ zs) same =
    ap (λ n. n ∷ map f zs) (same z (or_left (eqb z z) (has zs z) (eq-eqb z z refl)))
    ∙ ap (λ l. g z ∷ l) (same-by f g zs (λ y t. same y (or_right (eqb z y) (has zs y) t)))
