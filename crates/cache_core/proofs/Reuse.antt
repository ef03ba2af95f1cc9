-- If the blocks of a set are ordered by last use (FIFO: by last load), the first ones, as many as
-- there are ways, are the residents by reuse distance.
use Rattle.std.proofs.Common.{◌≡◌, ℕ, zero, suc, ◌%◌, Bool, true, false, not, ◌&&◌, eqb, ltb, List}
use Rattle.std.proofs.Common.{[], ◌∷◌, length, take, filter, refl, sym, ap, subst, ◌∙◌, arith}
use Rattle.std.specs.List.{list_any}
use Rattle.std.proofs.lemmas.Bool.{eqb-true, eq-eqb, and_right, le-ltb, lt-ltb}
use Rattle.std.proofs.lemmas.Bool.Decides.{nat_tests}
use Rattle.cache_core.specs.History.{Rules}
use Rattle.cache_core.specs.Residents.{distinct, before, in_set, is_resident, reuse_distance}
use Rattle.cache_core.specs.Order.{ways_of}
use Rattle.cache_core.proofs.Cases.{by_cases}

-- whether b is in the list
abbrev pub has : List ℕ → ℕ → Bool
has ms b = list_any (λ m. eqb m b) ms

module _ (p : ℕ → Bool) (b : ℕ) (passes : p b ≡ true) where
  at_b : (y : ℕ) → eqb y b ≡ true → p y ≡ true
  at_b y e = subst (λ z. p z ≡ true) (sym (eqb-true y b e)) passes

  -- a filter that b passes keeps b
  pub has-filter : (ys : List ℕ) → has (filter p ys) b ≡ has ys b
  has-filter [] = refl
  has-filter (y ∷ ys) = by_cases (p y)
      (λ e. rw (e, has-filter ys))
      (λ e. by_cases (eqb y b) (λ f. let g = at_b y f in cc) (λ f. rw (e, f) (has-filter ys)))

  pub before-filter : (ys : List ℕ) → before b (filter p ys) ≡ filter p (before b ys)
  before-filter [] = refl
  before-filter (y ∷ ys) = by_cases (eqb y b)
      (λ f. rw (at_b y f, f))
      (λ f. by_cases (p y)
      (λ e. rw (e, f, e) (ap (λ l. y ∷ l) (before-filter ys)))
      (λ e. rw (e, f, e) (before-filter ys)))

other : (m b : ℕ) → eqb m b ≡ false → not (eqb b m) ≡ true
other m b e = grind (arith, nat_tests)

-- a list without its repetitions has the same members
pub has-distinct : (ms : List ℕ) (b : ℕ) → has (distinct ms) b ≡ has ms b
has-distinct [] b = refl
has-distinct (m ∷ ms) b = by_cases (eqb m b)
    (λ e. rw e)
    (λ e. rw e (has-filter (λ n. not (eqb n m)) b (other m b e) (distinct ms)
    ∙ has-distinct ms b))

pub before-distinct : (ms : List ℕ) (b : ℕ) → before b (distinct ms) ≡ distinct (before b ms)
before-distinct [] b = refl
before-distinct (m ∷ ms) b = by_cases (eqb m b)
    (λ e. rw e)
    (λ e. rw e (ap (λ l. m ∷ l)
    (before-filter (λ n. not (eqb n m)) b (other m b e) (distinct ms)
    ∙ ap (filter (λ n. not (eqb n m))) (before-distinct ms b))))

-- a number is below another where their next ones are
pub ltb-suc : (a b : ℕ) → ltb (suc a) (suc b) ≡ ltb a b
ltb-suc a b = grind (arith, nat_tests)

-- b is among the first n just where it is there, and fewer than n stand in front of it
pub has-take : (n : ℕ) (ms : List ℕ) (b : ℕ)
    → has (take n ms) b ≡ (has ms b && ltb (length (before b ms)) n)
has-take zero ms b = sym (and_right (has ms b) (ltb (length (before b ms)) 0)
    (le-ltb (length (before b ms)) 0 (omega arith)))
has-take (suc n) [] b = refl
has-take (suc n) (m ∷ ms) b = by_cases (eqb m b)
    (λ e. rw e (sym (lt-ltb 0 (suc n) (omega arith))))
    (λ e. rw e (has-take n ms b
    ∙ ap (λ t. has ms b && t) (sym (ltb-suc (length (before b ms)) n))))

module _ (r : Rules) where
  pub has-in_set : (ms : List ℕ) (b : ℕ) → has (in_set r (b % r.sets) ms) b ≡ has ms b
  has-in_set ms b = has-filter (λ m. eqb (m % r.sets) (b % r.sets)) b
      (eq-eqb (b % r.sets) (b % r.sets) refl) ms

  -- the law itself
  pub has-ways_of : (ms : List ℕ) (b : ℕ) → has (ways_of r (b % r.sets) ms) b ≡ is_resident r ms b
  unfolding is_resident reuse_distance
  has-ways_of ms b = by_cases r.fifo
      (λ e. rw e (has-take r.assoc (in_set r (b % r.sets) ms) b
      ∙ ap (λ t. t && ltb (length (before b (in_set r (b % r.sets) ms))) r.assoc)
      (has-in_set ms b)))
      (λ e. rw e (has-take r.assoc (distinct (in_set r (b % r.sets) ms)) b
      ∙ rw (has-distinct, has-in_set, before-distinct) refl))
