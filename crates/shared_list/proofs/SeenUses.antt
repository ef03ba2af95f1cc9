-- How many uses of a log its users see.
use Rattle.std.proofs.Common.{◌≡◌, ◌≢◌, ℕ, zero, suc, ◌+◌, ◌^◌, ◌<◌, ◌≤◌, true, false, cond, eqb}
use Rattle.std.proofs.Common.{ltb, not, List, [], ◌∷◌, length, map, sym, ap, subst, ◌∙◌, arith, w32}
use Rattle.std.specs.Int.{bit_at, trailing_zeros}
use Rattle.std.specs.List.{All}
use Rattle.std.proofs.lemmas.Bool.{eqb-true, eq-eqb, false≢true, ltb-true, ltb-false}
use Rattle.std.proofs.lemmas.List.{length-reverse}
use Rattle.std.proofs.lemmas.Nat.Bits.{bit_at-trailing_zeros}
use Rattle.cache_core.proofs.Cases.{by_cases}
use Rattle.marked_list.specs.Uses.{dead, living}
use Rattle.marked_list.proofs.Living.{differs}
use Rattle.shared_list.specs.declared.log.Use.{Use}
use Rattle.shared_list.specs.Log.{has_users, no_use, seen, seen_by, seen_uses}
use Rattle.shared_list.proofs.Shortened.{living-reverse}

-- where each user sees as many uses or more, so do all together
pub seen-more : (old new : List Use) (n : ℕ)
    → ((q : ℕ) → q < n → length (living (seen_by q old)) ≤ length (living (seen_by q new)))
    → seen_uses old n ≤ seen_uses new n
seen-more old new zero more = omega arith
seen-more old new (suc n) more =
    let here = more n (omega arith) in
    let rest = seen-more old new n (λ q lt. more q (omega (arith, lt))) in
    omega (arith, here, rest)

length-seen-living : (q : ℕ) (log : List Use)
    → length (living (seen_by q log)) ≡ length (living (map (seen q) log))
length-seen-living q log = ap (λ (l : List ℕ). length l) (living-reverse (map (seen q) log))
    ∙ length-reverse (living (map (seen q) log))

-- a use that is one of some of the first n users is seen once more, at least
module _ (u : Use) (log : List Use) where
  one-more : (q : ℕ) → eqb (seen q u) dead ≡ false
      → length (living (seen_by q (u ∷ log))) ≡ suc (length (living (seen_by q log)))
  one-more q e = length-seen-living q (u ∷ log)
      ∙ rw e (ap suc (sym (length-seen-living q log)))

  no-less : (q : ℕ) → length (living (seen_by q log)) ≤ length (living (seen_by q (u ∷ log)))
  no-less q = by_cases (eqb (seen q u) dead)
      (λ e. let same : length (living (seen_by q (u ∷ log))) ≡ length (living (seen_by q log)) =
      length-seen-living q (u ∷ log) ∙ rw e (sym (length-seen-living q log)) in
      omega (arith, same))
      (λ e. let more = one-more q e in omega (arith, more))

  seen-once : (n q : ℕ) → q < n → eqb (seen q u) dead ≡ false
      → seen_uses log n + 1 ≤ seen_uses (u ∷ log) n
  seen-once zero q lt e = absurd (omega (arith, lt))
  seen-once (suc n) q lt e = by_cases (eqb q n)
      (λ f. let more = one-more n (subst (λ z. eqb (seen z u) dead ≡ false) (eqb-true q n f) e) in
      let rest = seen-more log (u ∷ log) n (λ k below. no-less k) in
      omega (arith, more, rest))
      (λ f. let ne : q ≢ n = λ g. false≢true (sym f ∙ eq-eqb q n g) in
      let rest = seen-once n q (by_cases (ltb q n) (λ g. ltb-true q n g)
      (λ g. let past = ltb-false q n g in
      let same : q ≡ n = omega (arith, past, lt) in absurd (ne same))) e in
      let here = no-less n in
      omega (arith, rest, here))

-- uses that all have users, of whom there are n, are seen as often as there are, or more often
pub each-sees : (n : ℕ) (log : List Use) → All (λ (u : Use). has_users u ≡ true) log
    → All (λ (u : Use). u.users < 2 ^ 32) log → All (λ (u : Use). u.number < dead) log
    → ((q : ℕ) → n ≤ q → q < 32 → length (living (seen_by q log)) ≡ 0)
    → length log ≤ seen_uses log n
each-sees n [] some fit low none = omega arith
each-sees n (u ∷ log) some fit low none =
    let used : 0 < u.users = by_cases (ltb 0 u.users) (λ e. ltb-true 0 u.users e)
    (λ e. let zero-is : u.users ≡ 0 = (let le = ltb-false 0 u.users e in omega (arith, le)) in
    absurd (false≢true (sym (ap not (eq-eqb u.users 0 zero-is))
    ∙ some 0 (no_use 0) (omega arith)))) in
    let q = trailing_zeros w32 u.users in
    let lowest = bit_at-trailing_zeros w32 u.users used (fit 0 (no_use 0) (omega arith)) in
    let sees : seen q u ≡ u.number =
    ap (λ t. cond t u.number dead) (eq-eqb (bit_at u.users q) 1 lowest.1) in
    let number = low 0 (no_use 0) (omega arith) in
    let live : eqb (seen q u) dead ≡ false =
    differs (seen q u) (λ e. omega (arith, number, sees, e)) in
    let more = one-more u log q live in
    let inside : q < n = by_cases (ltb q n) (λ e. ltb-true q n e)
    (λ e. let zero-seen = none q (ltb-false q n e) lowest.0 in
    absurd (omega (arith, zero-seen, more))) in
    let rest = each-sees n log (λ k d lt. some (suc k) d (omega (arith, lt)))
    (λ k d lt. fit (suc k) d (omega (arith, lt))) (λ k d lt. low (suc k) d (omega (arith, lt)))
    (λ k past lk. let all = none k past lk in
    let less = no-less u log k in
    omega (arith, all, less)) in
    let once = seen-once u log n q inside live in
    omega (arith, once, rest)
