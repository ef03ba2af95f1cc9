-- A row of ways in order, and what one pass over it does.
use Rattle.std.proofs.Common.{◌≡◌, ℕ, zero, suc, ◌≤◌, Bool, true, false, cond, not, ◌||◌, eqb, ltb}
use Rattle.std.proofs.Common.{List, [], ◌∷◌, ◌++◌, length, take, map, replicate, get_or, filter}
use Rattle.std.proofs.Common.{Some, None, refl, sym, ap, subst, ◌∙◌, arith}
use Rattle.std.specs.List.{find, list_any}
use Rattle.std.proofs.lemmas.List.{get_or_default, length-replicate, take-take}
use Rattle.std.proofs.lemmas.Bool.{eqb-true, eq-eqb, false≢true, or_parts, and_left}
use Rattle.cache_core.specs.Residents.{distinct, before}
use Rattle.cache_core.specs.Row.{shifted, leaving, changed}
use Rattle.cache_core.proofs.Reuse.{has, has-take}
use Rattle.cache_core.proofs.Cases.{by_cases}

-- the list without b
abbrev pub without : ℕ → List ℕ → List ℕ
without b ms = filter (λ n. not (eqb n b)) ms

-- no number is in the list twice
abbrev pub IsOnce : List ℕ → Type 0
IsOnce [] = Unit {0}
IsOnce (m ∷ ms) = (has ms m ≡ false) × IsOnce ms

-- a list without b is the same list without b taken out
pub without-absent : (ms : List ℕ) (b : ℕ) → has ms b ≡ false → without b ms ≡ ms
without-absent [] b h = refl
without-absent (m ∷ ms) b h = by_cases (eqb m b)
    (λ e. absurd (false≢true (sym h ∙ rw e refl)))
    (λ e. rw e (ap (λ l. m ∷ l) (without-absent ms b (sym (rw e refl) ∙ h))))

module _ {X : Type 0} (p : X → Bool) where
  -- where none of the first n passes, a pass puts c first and drops the last
  pub shifted-none : (n : ℕ) (xs : List X) (c : X) → list_any p (take n xs) ≡ false → n ≤ length xs
      → shifted p c (take n xs) ≡ take n (c ∷ xs)
  shifted-none zero xs c h l = refl
  shifted-none (suc n) [] c h l = absurd (omega arith)
  shifted-none (suc n) (x ∷ xs) c h l =
      by_cases (p x)
      (λ e. absurd (false≢true (sym h ∙ rw e refl)))
      (λ e. rw e (ap (λ l. c ∷ l)
      (shifted-none n xs x (sym (rw e refl) ∙ h) (omega arith))))

  -- and the last leaves
  pub leaving-none : (n : ℕ) (xs : List X) (c : X) → list_any p (take n xs) ≡ false → n ≤ length xs
      → leaving p c (take n xs) ≡ get_or (c ∷ xs) n c
  leaving-none zero xs c h l = refl
  leaving-none (suc n) [] c h l = absurd (omega arith)
  leaving-none (suc n) (x ∷ xs) c h l =
      by_cases (p x)
      (λ e. absurd (false≢true (sym h ∙ rw e refl)))
      (λ e. rw e (leaving-none n xs x (sym (rw e refl) ∙ h) (omega arith)
      ∙ get_or_default (x ∷ xs) n x c (omega arith)))

  -- where none passes, nothing is changed
  pub changed-none : (g : X → X) (xs : List X) → list_any p xs ≡ false → changed p g xs ≡ xs
  changed-none g [] h = refl
  changed-none g (x ∷ xs) h = by_cases (p x)
      (λ e. absurd (false≢true (sym h ∙ rw e refl)))
      (λ e. rw e (ap (λ l. x ∷ l) (changed-none g xs (sym (rw e refl) ∙ h))))

-- a row that has a way for each of some blocks, and then empty ways, up to a length
module _ {X : Type 0} (f : ℕ → X) (empty : X) (k : ℕ) where
  -- a way for each of these blocks, and then k empty ones
  abbrev pub padded : List ℕ → List X
  padded ms = map f ms ++ replicate k empty

  module _ (p : X → Bool) (b : ℕ) (at : (y : ℕ) → p (f y) ≡ eqb y b) (none : p empty ≡ false) where
    any-take-replicate : (n j : ℕ) → list_any p (take n (replicate j empty)) ≡ false
    any-take-replicate zero j = refl
    any-take-replicate (suc n) zero = refl
    any-take-replicate (suc n) (suc j) = rw none (any-take-replicate n j)

    -- the row holds b exactly if b is among the first blocks
    pub any-padded : (n : ℕ) (ms : List ℕ) → list_any p (take n (padded ms)) ≡ has (take n ms) b
    any-padded zero ms = refl
    any-padded (suc n) [] = any-take-replicate (suc n) k
    any-padded (suc n) (m ∷ ms) = rw (at m) (ap (λ t. eqb m b || t) (any-padded n ms))

    find-replicate : (n j : ℕ) → find p (take n (replicate j empty)) ≡ None
    find-replicate zero j = refl
    find-replicate (suc n) zero = refl
    find-replicate (suc n) (suc j) = rw none (find-replicate n j)

    -- a search finds b's way just where b is among the first
    pub find-padded : (n : ℕ) (ms : List ℕ)
        → find p (take n (padded ms)) ≡ cond (has (take n ms) b) (Some (f b)) None
    find-padded zero ms = refl
    find-padded (suc n) [] = find-replicate (suc n) k
    find-padded (suc n) (m ∷ ms) =
        by_cases (eqb m b)
        (λ e. rw (at m, e) (ap (λ y. Some (f y)) (eqb-true m b e)))
        (λ e. rw (at m, e) (find-padded n ms))

    -- a pass that brings b to the front
    pub shifted-padded : (n : ℕ) (ms : List ℕ) (c : X) → n ≤ k → IsOnce ms
        → shifted p c (take n (padded ms)) ≡ take n (c ∷ padded (without b ms))
    shifted-padded zero ms c l o = refl
    shifted-padded (suc n) [] c l o =
        shifted-none p (suc n) (replicate k empty) c (any-take-replicate (suc n) k)
        (omega (arith, length-replicate k empty))
    shifted-padded (suc n) (m ∷ ms) c l o =
        by_cases (eqb m b)
        (λ e. rw (at m, e) (ap (λ l. c ∷ take n (padded l))
        (sym (without-absent ms b (subst (λ z. has ms z ≡ false) (eqb-true m b e) o.0)))))
        (λ e. rw (at m, e) (ap (λ l. c ∷ l)
        (shifted-padded n ms (f m) (omega arith) o.1)))

    module _ (f' : ℕ → X) (agree : (y : ℕ) → eqb y b ≡ false → f' y ≡ f y) where
      abbrev padded' : List ℕ → List X
      padded' ms = map f' ms ++ replicate k empty

      -- two makers of ways that agree but for b agree on a list without b
      pub map-without : (ms : List ℕ) → map f' (without b ms) ≡ map f (without b ms)
      map-without [] = refl
      map-without (m ∷ ms) = by_cases (eqb m b)
          (λ e. rw e (map-without ms))
          (λ e. rw (e, agree m e, map-without ms))

      -- the row does not depend on the way of b if b is not among the first blocks
      pub padded-agree : (n : ℕ) (ms : List ℕ) → has (take n ms) b ≡ false
          → take n (padded' ms) ≡ take n (padded ms)
      padded-agree zero ms h = refl
      padded-agree (suc n) [] h = refl
      padded-agree (suc n) (m ∷ ms) h =
          by_cases (eqb m b)
          (λ e. absurd (false≢true (sym h ∙ rw e refl)))
          (λ e. rw (agree m e) (ap (λ l. f m ∷ l)
          (padded-agree n ms (sym (rw e refl) ∙ h))))

      -- a pass that changes the way of b in its place
      pub changed-padded : (g : X → X) → f' b ≡ g (f b) → (n : ℕ) (ms : List ℕ) → IsOnce (take n ms)
          → changed p g (take n (padded ms)) ≡ take n (padded' ms)
      changed-padded g same zero ms o = refl
      changed-padded g same (suc n) [] o =
          changed-none p g (take (suc n) (replicate k empty)) (any-take-replicate (suc n) k)
      changed-padded g same (suc n) (m ∷ ms) o =
          by_cases (eqb m b)
          (λ e. rw (at m, e) (let mb : m ≡ b = eqb-true m b e in
          rw (padded-agree n ms (subst (λ z. has (take n ms) z ≡ false) mb o.0), mb, same)))
          (λ e. rw (at m, e, agree m e)
          (ap (λ l. f m ∷ l) (changed-padded g same n ms o.1)))

-- a filter that b does not pass takes b out
pub has-filter_not : (p : ℕ → Bool) (b : ℕ) → p b ≡ false → (ys : List ℕ)
    → has (filter p ys) b ≡ false
has-filter_not p b fails [] = refl
has-filter_not p b fails (y ∷ ys) =
    by_cases (p y)
    (λ e. by_cases (eqb y b)
    (λ f. absurd (false≢true (sym fails ∙ subst (λ z. p z ≡ true) (eqb-true y b f) e)))
    (λ f. rw (e, f) (has-filter_not p b fails ys)))
    (λ e. rw e (has-filter_not p b fails ys))

-- a number that is not in a list is not in a filter of it or among its first members
pub has-filter_absent : (p : ℕ → Bool) (b : ℕ) (ys : List ℕ) → has ys b ≡ false
    → has (filter p ys) b ≡ false
has-filter_absent p b [] h = refl
has-filter_absent p b (y ∷ ys) h = let parts = or_parts (eqb y b) (has ys b) h in
    by_cases (p y)
    (λ e. rw (e, parts.0) (has-filter_absent p b ys parts.1))
    (λ e. rw e (has-filter_absent p b ys parts.1))

-- what is not in a list is not among its first
pub has-take_absent : (n : ℕ) (b : ℕ) (ys : List ℕ) → has ys b ≡ false → has (take n ys) b ≡ false
has-take_absent n b ys h = has-take n ys b ∙ and_left (has ys b) (ltb (length (before b ys)) n) h

pub IsOnce-filter : (p : ℕ → Bool) (ys : List ℕ) → IsOnce ys → IsOnce (filter p ys)
IsOnce-filter p [] o = tt
IsOnce-filter p (y ∷ ys) o = by_cases (p y)
    (λ e. rw e (has-filter_absent p y ys o.0, IsOnce-filter p ys o.1))
    (λ e. rw e (IsOnce-filter p ys o.1))

-- where no number stands twice, none does among the first
pub IsOnce-take : (n : ℕ) (ys : List ℕ) → IsOnce ys → IsOnce (take n ys)
IsOnce-take zero ys o = tt
IsOnce-take (suc n) [] o = tt
IsOnce-take (suc n) (y ∷ ys) o = (has-take_absent n y ys o.0, IsOnce-take n ys o.1)

-- in a list without its repetitions no number stands twice
pub IsOnce-distinct : (ys : List ℕ) → IsOnce (distinct ys)
IsOnce-distinct [] = tt
IsOnce-distinct (y ∷ ys) = (
  has-filter_not (λ n. not (eqb n y)) y (ap not (eq-eqb y y refl))
      (distinct ys),
  IsOnce-filter (λ n. not (eqb n y)) (distinct ys) (IsOnce-distinct ys),
)

-- the first n behind a front are the same if the list was cut at n before
pub take-cons_take : {X : Type 0} (n : ℕ) (c : X) (xs : List X)
    → take n (c ∷ take n xs) ≡ take n (c ∷ xs)
take-cons_take zero c xs = refl
take-cons_take (suc n) c xs = ap (λ l. c ∷ l) (take-take n (suc n) xs (omega arith))
