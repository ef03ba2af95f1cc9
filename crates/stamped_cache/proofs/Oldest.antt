-- The last resident of a full set is the one that stands furthest behind in the order of all
-- blocks, also where blocks go by numbers.
use Rattle.std.proofs.Common.{◌≡◌, ℕ, zero, suc, ◌-◌, ◌%◌, ◌<◌, ◌≤◌, Bool, true, false, cond}
use Rattle.std.proofs.Common.{◌||◌, eqb, List, [], ◌∷◌, length, get_or, take, filter, map}
use Rattle.std.proofs.Common.{length-take, refl, sym, ap, subst, ◌∙◌, arith}
use Rattle.std.proofs.lemmas.Bool.{eqb-true, eq-eqb, false≢true, or_left, or_right}
use Rattle.std.proofs.lemmas.Bool.{true_from_ne_false, cond-false}
use Rattle.std.proofs.lemmas.List.{get_or-take}
use Rattle.cache_core.specs.History.{Rules, History}
use Rattle.cache_core.specs.Residents.{distinct, in_set, renewals}
use Rattle.cache_core.specs.Order.{residents_of}
use Rattle.cache_core.proofs.Rising.{same_test}
use Rattle.cache_core.proofs.Cases.{by_cases}
use Rattle.cache_core.proofs.Reuse.{has}
use Rattle.cache_core.proofs.Shift.{IsOnce, IsOnce-filter, IsOnce-distinct}
use Rattle.cache_core.proofs.Shift.{has-filter_not}
use Rattle.marked_list.specs.Recency.{index_of}
use Rattle.grid_core.specs.Ways.{IsStacked}
use Rattle.grid_core.proofs.MoreSets.{distinct-filter}
use Rattle.grid_core.proofs.Numbering.{Agree, agree-head, agree-tail}
use Rattle.stamped_cache.proofs.RowLists.{has-get_or, other-member}

-- the place of a number in a list, or the length of the list
abbrev pub place : ℕ → List ℕ → ℕ
place a ys = index_of (λ m. eqb m a) ys

module _ (p : ℕ → Bool) where
  filter-passes : (ys : List ℕ) (v : ℕ) → has (filter p ys) v ≡ true → p v ≡ true
  filter-passes ys v there = true_from_ne_false (p v) (λ e.
      false≢true (sym (has-filter_not p v e ys) ∙ there))

  -- a filter leaves the order as it is
  place-filter : (a c : ℕ) → p a ≡ true → p c ≡ true → (ys : List ℕ) → place a ys ≤ place c ys
      → place a (filter p ys) ≤ place c (filter p ys)
  place-filter a c pa pc [] le = le
  place-filter a c pa pc (y ∷ ys) le = by_cases (eqb y a)
      (λ e. let py : p y ≡ true = subst (λ z. p z ≡ true) (sym (eqb-true y a e)) pa in
      let first : place a (filter p (y ∷ ys)) ≡ 0 = rw py (rw e refl) in omega arith)
      (λ e. by_cases (eqb y c)
      (λ f. let one : place a (y ∷ ys) ≡ suc (place a ys) = rw e refl in
      let none : place c (y ∷ ys) ≡ 0 = rw f refl in
      absurd (omega arith))
      (λ f. let one : place a (y ∷ ys) ≡ suc (place a ys) = rw e refl in
      let two : place c (y ∷ ys) ≡ suc (place c ys) = rw f refl in
      let rest = place-filter a c pa pc ys (omega arith) in
      by_cases (p y)
      (λ g. let one' : place a (filter p (y ∷ ys)) ≡ suc (place a (filter p ys)) =
      rw g (rw e refl) in
      let two' : place c (filter p (y ∷ ys)) ≡ suc (place c (filter p ys)) = rw g (rw f refl) in
      omega arith)
      (λ g. let one' : place a (filter p (y ∷ ys)) ≡ place a (filter p ys) = rw g refl in
      let two' : place c (filter p (y ∷ ys)) ≡ place c (filter p ys) = rw g refl in
      omega arith)))

-- what is among the first stands there
place-take : (n u : ℕ) (ys : List ℕ) → has (take n ys) u ≡ true → place u ys < n
place-take zero u ys h = absurd (false≢true h)
place-take (suc n) u [] h = absurd (false≢true h)
place-take (suc n) u (y ∷ ys) h = by_cases (eqb y u)
    (λ e. let first : place u (y ∷ ys) ≡ 0 = rw e refl in omega arith)
    (λ e. let one : place u (y ∷ ys) ≡ suc (place u ys) = rw e refl in
    let rest = place-take n u ys (sym (ap (λ t. t || has (take n ys) u) e) ∙ h) in
    omega arith)

-- a number stands where it is read
pub place-read : (ys : List ℕ) (i : ℕ) → IsOnce ys → i < length ys
    → place (get_or ys i 0) ys ≡ i
place-read [] i o l = absurd (omega arith)
place-read (y ∷ ys) zero o l = rw (eq-eqb y y refl) refl
place-read (y ∷ ys) (suc i) o l =
    let differ : eqb y (get_or ys i 0) ≡ false =
    other-member ys y (get_or ys i 0) o.0 (has-get_or ys i 0 (omega arith)) in
    ap (λ t. cond t 0 (suc (place (get_or ys i 0) ys))) differ
    ∙ ap suc (place-read ys i o.1 (omega arith))

-- and is read where it stands
pub read-place : (ys : List ℕ) (u : ℕ) → has ys u ≡ true → get_or ys (place u ys) 0 ≡ u
read-place [] u h = absurd (false≢true h)
read-place (y ∷ ys) u h = by_cases (eqb y u)
    (λ e. ap (λ t. get_or (y ∷ ys) (cond t 0 (suc (place u ys))) 0) e ∙ eqb-true y u e)
    (λ e. ap (λ t. get_or (y ∷ ys) (cond t 0 (suc (place u ys))) 0) e
    ∙ read-place ys u (sym (ap (λ t. t || has ys u) e) ∙ h))

has-front : (n u : ℕ) (ys : List ℕ) → has (take n ys) u ≡ true → has ys u ≡ true
has-front zero u ys h = absurd (false≢true h)
has-front (suc n) u [] h = h
has-front (suc n) u (y ∷ ys) h = by_cases (eqb y u)
    (λ e. or_left (eqb y u) (has ys u) e)
    (λ e. or_right (eqb y u) (has ys u)
    (has-front n u ys (sym (ap (λ t. t || has (take n ys) u) e) ∙ h)))

-- of the first n that pass, the last stands furthest behind in the whole list
last-behind : (p : ℕ → Bool) (ys : List ℕ) → IsOnce ys → (n : ℕ) → 0 < n → (u : ℕ)
    → length (take n (filter p ys)) ≡ n → has (take n (filter p ys)) u ≡ true
    → place (get_or (take n (filter p ys)) (n - 1) 0) ys ≤ place u ys
    → u ≡ get_or (take n (filter p ys)) (n - 1) 0
last-behind p ys once n some u full there le =
    let fs = filter p ys in
    let v = get_or fs (n - 1) 0 in
    let same : get_or (take n fs) (n - 1) 0 ≡ v = get_or-take n fs (n - 1) 0 (omega arith) in
    let long = length-take n fs in
    let inside : n - 1 < length fs = omega arith in
    let once' = IsOnce-filter p ys once in
    let pv = filter-passes p ys v (has-get_or fs (n - 1) 0 inside) in
    let u-there = has-front n u fs there in
    let pu = filter-passes p ys u u-there in
    let kept = place-filter p v u pv pu ys (subst (λ z. place z ys ≤ place u ys) same le) in
    let at = place-read fs (n - 1) once' inside in
    let low = place-take n u fs there in
    let here : place u fs ≡ n - 1 = omega arith in
    sym (read-place fs u u-there) ∙ ap (λ i. get_or fs i 0) here ∙ sym same

module _ (r : Rules) (st : IsStacked r) (h : History) where
  -- all blocks used since the last flush, in order of last use
  abbrev pub all_used : List ℕ
  all_used = distinct (renewals r h)

  -- the residents of a set are the first of its blocks in that order
  pub residents-are : (t : ℕ) → residents_of r h t ≡ take r.assoc (in_set r t all_used)
  residents-are t = ap (take r.assoc)
      (cond-false r.fifo (in_set r t (renewals r h)) (distinct (in_set r t (renewals r h))) st.lru
      ∙ distinct-filter (λ m. eqb (m % r.sets) t) (renewals r h))

  -- the resident of a full set that stands furthest behind in the order of all is the last
  pub oldest : 0 < r.assoc → (t u : ℕ) → length (residents_of r h t) ≡ r.assoc
      → has (residents_of r h t) u ≡ true
      → place (get_or (residents_of r h t) (r.assoc - 1) 0) all_used ≤ place u all_used
      → u ≡ get_or (residents_of r h t) (r.assoc - 1) 0
  oldest ways t u = subst (λ l. length l ≡ r.assoc → has l u ≡ true
      → place (get_or l (r.assoc - 1) 0) all_used ≤ place u all_used
      → u ≡ get_or l (r.assoc - 1) 0) (sym (residents-are t))
      (last-behind (λ m. eqb (m % r.sets) t) all_used (IsOnce-distinct (renewals r h))
      r.assoc ways u)

-- a test of numbers that agrees with one of blocks finds the same place
place-agree : (f : ℕ → ℕ) (n a : ℕ) (ys : List ℕ) → Agree f n a ys
    → place n (map f ys) ≡ place a ys
place-agree f n a [] g = refl
place-agree f n a (y ∷ ys) g =
    ap (λ t. cond t 0 (suc (place n (map f ys)))) (agree-head f n a y ys g)
    ∙ ap (λ k. cond (eqb y a) 0 (suc k)) (place-agree f n a ys (agree-tail f n a y ys g))

module _ (f : ℕ → ℕ) (ys : List ℕ)
    (apart : (a c : ℕ) → has ys a ≡ true → has ys c ≡ true → f a ≡ f c → a ≡ c) where
  tells : (a : ℕ) → has ys a ≡ true → (y : ℕ) → has ys y ≡ true → eqb (f y) (f a) ≡ eqb y a
  tells a ha y hy = same_test (eqb (f y) (f a)) (eqb y a)
      (λ e. eq-eqb y a (apart y a hy ha (eqb-true (f y) (f a) e)))
      (λ e. eq-eqb (f y) (f a) (ap f (eqb-true y a e)))

  -- a block stands where its number stands in the list of the numbers
  pub place-map : (a : ℕ) → has ys a ≡ true → place (f a) (map f ys) ≡ place a ys
  place-map a ha = place-agree f (f a) a ys (tells a ha)

-- a number that is in a list stands inside it
pub place-inside : (ys : List ℕ) (u : ℕ) → has ys u ≡ true → place u ys < length ys
place-inside [] u h = absurd (false≢true h)
place-inside (y ∷ ys) u h = by_cases (eqb y u)
    (λ e. rw e (omega arith))
    (λ e. let rest = place-inside ys u (sym (ap (λ t. t || has ys u) e) ∙ h) in
    rw e (omega arith))
