-- Blocks by number: a list of blocks, and the list of their numbers.
use Rattle.std.proofs.Common.{◌≡◌, ℕ, zero, suc, ◌<◌, Bool, true, false, cond, not, ◌||◌, eqb}
use Rattle.std.proofs.Common.{is_some}
use Rattle.std.proofs.Common.{List, [], ◌∷◌, map, filter, Option, Some, None, unwrap_or}
use Rattle.std.proofs.Common.{refl, sym, ap, ◌∙◌, inl, inr, arith}
use Rattle.std.proofs.lemmas.Bool.{eqb-true, eq-eqb, ne_eqb, or_cases, or_left, or_right}
use Rattle.cache_core.proofs.Rising.{same_test}
use Rattle.cache_core.proofs.Reuse.{has}
use Rattle.cache_core.proofs.Cases.{by_cases}
use Rattle.marked_list.specs.Recency.{is_among, level_of, brought_front}

-- what is some number is its own number
pub some-is : (o : Option ℕ) → is_some o ≡ true → o ≡ Some (unwrap_or o 0)
some-is None h = cc
some-is (Some v) h = refl

-- a map from blocks to numbers
module _ (g : ℕ → Option ℕ) where
  abbrev pub number : ℕ → ℕ
  number y = unwrap_or (g y) 0

  module _ (used : ℕ) (low : (a n : ℕ) → g a ≡ Some n → n < used)
      (apart : (a b n : ℕ) → g a ≡ Some n → g b ≡ Some n → a ≡ b) (b : ℕ) where
    abbrev pub given : ℕ
    given = unwrap_or (g b) used

    -- a known block has the number of b just if it is b
    pub tells : (y : ℕ) → is_some (g y) ≡ true → eqb (number y) given ≡ eqb y b
    tells y h =
        let here : g y ≡ Some (number y) = some-is (g y) h in
        (elim (g b) as (λ o. g b ≡ o → eqb (number y) (unwrap_or o used) ≡ eqb y b) [
          | None ↦ λ e. let lt = low y (number y) here in
              ne_eqb (number y) used (λ same. absurd (omega arith))
              ∙ sym (ne_eqb y b (λ same. let w : Some (number y) ≡ None = sym here ∙ ap g same
              ∙ e in
              absurd cc))
          | Some w ↦ λ e. same_test (eqb (number y) w) (eqb y b)
              (λ t. eq-eqb y b (apart y b w (here ∙ ap Some (eqb-true (number y) w t)) e))
              (λ t. eq-eqb (number y) w
              (ap (λ o. unwrap_or o 0) (ap g (eqb-true y b t) ∙ e)))
        ]) refl

-- a test of numbers that agrees with one of blocks, on a list of blocks
module _ (f : ℕ → ℕ) (n b : ℕ) where
  abbrev pub Agree : List ℕ → Type 0
  Agree ys = (y : ℕ) → has ys y ≡ true → eqb (f y) n ≡ eqb y b

  pub agree-head : (y : ℕ) (ys : List ℕ) → Agree (y ∷ ys) → eqb (f y) n ≡ eqb y b
  agree-head y ys a = a y (or_left (eqb y y) (has ys y) (eq-eqb y y refl))

  pub agree-tail : (y : ℕ) (ys : List ℕ) → Agree (y ∷ ys) → Agree ys
  agree-tail y ys a z h = a z (or_right (eqb y z) (has ys z) h)

  -- the first blocks are the same by numbers
  pub among-map : (size : ℕ) (ys : List ℕ) → Agree ys
      → is_among n (map f ys) size ≡ is_among b ys size
  among-map zero ys a = refl
  among-map (suc size) [] a = refl
  among-map (suc size) (y ∷ ys) a =
      ap (λ t. t || is_among n (map f ys) size) (agree-head y ys a)
      ∙ ap (λ t. eqb y b || t) (among-map size ys (agree-tail y ys a))

  -- the level is the same by numbers
  pub level-map : (sizes : List ℕ) (ys : List ℕ) → Agree ys
      → level_of sizes (map f ys) n ≡ level_of sizes ys b
  level-map [] ys a = refl
  level-map (size ∷ sizes) ys a =
      ap (λ t. cond t 0 (suc (level_of sizes (map f ys) n))) (among-map size ys a)
      ∙ ap (λ k. cond (is_among b ys size) 0 (suc k)) (level-map sizes ys a)

  module _ (f' : ℕ → ℕ) (here : f' b ≡ n) (others : (y : ℕ) → eqb y b ≡ false → f' y ≡ f y) where
    rest-map : (ys : List ℕ) → Agree ys → filter (λ m. not (eqb m n)) (map f ys)
        ≡ map f' (filter (λ y. not (eqb y b)) ys)
    rest-map [] a = refl
    rest-map (y ∷ ys) a = by_cases (eqb y b)
        (λ e. ap (λ t. cond (not t) (f y ∷ filter (λ m. not (eqb m n)) (map f ys))
        (filter (λ m. not (eqb m n)) (map f ys))) (agree-head y ys a ∙ e)
        ∙ rest-map ys (agree-tail y ys a)
        ∙ sym (ap (λ t. map f' (cond (not t) (y ∷ filter (λ z. not (eqb z b)) ys)
        (filter (λ z. not (eqb z b)) ys))) e))
        (λ e. ap (λ t. cond (not t) (f y ∷ filter (λ m. not (eqb m n)) (map f ys))
        (filter (λ m. not (eqb m n)) (map f ys))) (agree-head y ys a ∙ e)
        ∙ ap (λ l. f y ∷ l) (rest-map ys (agree-tail y ys a))
        ∙ ap (λ m. m ∷ map f' (filter (λ z. not (eqb z b)) ys)) (sym (others y e))
        ∙ sym (ap (λ t. map f' (cond (not t) (y ∷ filter (λ z. not (eqb z b)) ys)
        (filter (λ z. not (eqb z b)) ys))) e))

    -- so is the order after a use
    pub front-map : (ys : List ℕ) → Agree ys
        → brought_front n (map f ys) ≡ map f' (brought_front b ys)
    front-map ys a = ap (λ l. n ∷ l) (rest-map ys a)
        ∙ ap (λ m. m ∷ map f' (filter (λ y. not (eqb y b)) ys)) (sym here)

has-kept : (p : ℕ → Bool) (ys : List ℕ) (z : ℕ) → has (filter p ys) z ≡ true → has ys z ≡ true
has-kept p [] z h = h
has-kept p (y ∷ ys) z h = by_cases (p y)
    (λ e. elim (or_cases (eqb y z) (has (filter p ys) z)
    (sym (ap (λ t. has (cond t (y ∷ filter p ys) (filter p ys)) z) e) ∙ h)) [
      | inl t ↦ or_left (eqb y z) (has ys z) t
      | inr t ↦ or_right (eqb y z) (has ys z) (has-kept p ys z t)
    ])
    (λ e. or_right (eqb y z) (has ys z) (has-kept p ys z
    (sym (ap (λ t. has (cond t (y ∷ filter p ys) (filter p ys)) z) e) ∙ h)))

-- after a use of b, what holds of b and of the blocks before holds of all
pub known-front : (known : ℕ → Bool) (b : ℕ) (ys : List ℕ)
    → ((y : ℕ) → has ys y ≡ true → known y ≡ true)
    → (y : ℕ) → has (brought_front b ys) y ≡ true → (eqb b y || known y) ≡ true
known-front known b ys all y h = elim (or_cases (eqb b y)
    (has (filter (λ m. not (eqb m b)) ys) y) h) [
      | inl t ↦ or_left (eqb b y) (known y) t
      | inr t ↦ or_right (eqb b y) (known y) (all y (has-kept (λ m. not (eqb m b)) ys y t))
    ]
