-- What is known of blocks by number stays as it is where more blocks get numbers.
use Rattle.std.proofs.Common.{◌≡◌, ℕ, ◌<◌, Bool, true, false, ◌||◌, ◌==◌, eqb, List, [], ◌∷◌, map}
use Rattle.std.proofs.Common.{length, length-append, Option, Some, None, unwrap_or}
use Rattle.std.proofs.Common.{refl, sym, ap, subst, ◌∙◌, inl, inr, arith}
use Rattle.std.proofs.lemmas.Bool.{eq-eqb, eqb-true, eqb-false, ne_eqb, false≢true, or_cases}
use Rattle.std.proofs.lemmas.Bool.{or_left, or_right}
use Rattle.cache_core.proofs.Cases.{by_cases}
use Rattle.cache_core.proofs.Reuse.{has}
use Rattle.cache_core.specs.Lists.{IsBeginning}
use Rattle.grid_core.specs.Numbers.{number_at}
use Rattle.grid_core.specs.Shadows.{number_by, was_number_used}
use Rattle.grid_core.proofs.Numbers.{number-apart, number-kept, number-low, number-low-kept}

-- a block that was used has a number
pub used-some : (used : ℕ → Bool) (o : Option ℕ) → was_number_used used o ≡ true
    → o ≡ Some (unwrap_or o 0)
used-some used None h = absurd (false≢true h)
used-some used (Some n) h = refl

-- the list of the blocks that have numbers goes on, and no number behind the first ones is used
module _ (used : ℕ → Bool) (bs cs : List ℕ) (on : IsBeginning bs cs)
    (low : (n : ℕ) → used n ≡ true → n < length bs) where
  kept : (b n : ℕ) → number_at bs b ≡ Some n → number_at cs b ≡ Some n
  kept b n e = subst (λ l. number_at l b ≡ Some n) (sym on.1) (number-kept bs on.0 b n e)

  -- the same blocks are used
  pub used-same : (b : ℕ) → was_number_used used (number_at cs b)
      ≡ was_number_used used (number_at bs b)
  used-same b = (elim (number_at bs b) as (λ o. number_at bs b ≡ o
      → was_number_used used (number_at cs b) ≡ was_number_used used o) [
        | Some n ↦ λ e. ap (was_number_used used) (kept b n e)
        | None ↦ λ e. (elim (number_at cs b) as (λ o. number_at cs b ≡ o
            → was_number_used used o ≡ false) [
              | None ↦ λ f. refl
              | Some n ↦ λ f. by_cases (used n)
                  (λ t. let w : None ≡ Some n = sym e ∙ number-low-kept bs on.0 b n
                  (subst (λ l. number_at l b ≡ Some n) on.1 f) (low n t) in absurd cc)
                  (λ t. t)
            ]) refl
      ]) refl

  -- they have the same numbers
  pub order-same : (ys : List ℕ)
      → ((y : ℕ) → has ys y ≡ true → was_number_used used (number_at bs y) ≡ true)
      → map (number_by bs) ys ≡ map (number_by cs) ys
  order-same [] all = refl
  order-same (y ∷ ys) all =
      let is = used-some used (number_at bs y)
      (all y (or_left (eqb y y) (has ys y) (eq-eqb y y refl))) in
      ap (λ n. n ∷ map (number_by bs) ys)
      (sym (ap (λ o. unwrap_or o 0) (kept y (number_by bs y) is)))
      ∙ ap (λ l. number_by cs y ∷ l)
      (order-same ys (λ z h. all z (or_right (eqb y z) (has ys z) h)))

  -- no number behind them is used
  pub low-same : (n : ℕ) → used n ≡ true → n < length cs
  low-same n h =
      let lt = low n h in
      let longer = ap (λ (l : List ℕ). length l) on.1 ∙ length-append bs on.0 in
      omega arith

-- block b, of number n, is used
module _ (old new : ℕ → Bool) (cs : List ℕ) (b n : ℕ) (is : number_at cs b ≡ Some n)
    (now : (q : ℕ) → new q ≡ (n == q || old q)) where
  -- so it is used, and each block that was
  pub used-after : (q : ℕ) → was_number_used new (number_at cs q)
      ≡ (b == q || was_number_used old (number_at cs q))
  used-after q = (elim (number_at cs q) as (λ o. number_at cs q ≡ o
      → was_number_used new o ≡ (b == q || was_number_used old o)) [
        | Some k ↦ λ e. now k ∙ ap (λ t. t || old k) (same k e)
        | None ↦ λ e. sym (ap (λ t. t || false) (ne_eqb b q
            (λ eq. let w : Some n ≡ None = sym is ∙ ap (number_at cs) eq ∙ e in absurd cc)))
      ]) refl
    where
      same : (k : ℕ) → number_at cs q ≡ Some k → eqb n k ≡ eqb b q
      same k e = by_cases (eqb n k)
          (λ t. t ∙ sym (eq-eqb b q (number-apart cs b q n is
          (e ∙ ap Some (sym (eqb-true n k t))))))
          (λ t. t ∙ sym (ne_eqb b q (λ eq.
          let w : Some n ≡ Some k = sym is ∙ ap (number_at cs) eq ∙ e in
          eqb-false n k t (ap (λ o. unwrap_or o 0) w))))

  -- its number is not behind those of the list
  pub low-after : ((q : ℕ) → old q ≡ true → q < length cs)
      → (q : ℕ) → new q ≡ true → q < length cs
  low-after low q h = elim (or_cases (n == q) (old q) (sym (now q) ∙ h)) [
    | inl t ↦ subst (λ k. k < length cs) (eqb-true n q t) (number-low cs b n is)
    | inr t ↦ low q t
  ]
