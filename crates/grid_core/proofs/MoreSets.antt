-- A cache of more sets and as many ways holds more.
use Rattle.std.proofs.Common.{◌≡◌, ℕ, ◌*◌, ◌%◌, Bool, true, false, cond, not, ◌&&◌, eqb, ltb}
use Rattle.std.proofs.Common.{List, [], ◌∷◌, length, take, filter, refl, sym, ap, subst, ◌∙◌, arith}
use Rattle.std.proofs.lemmas.Bool.{eqb-true, eq-eqb, cond-false, and_parts, lt-ltb, ltb-true}
use native.Mathlib.Nat.{mod-mod_of_dvd, dvd-mul_right}
use Rattle.cache_core.specs.History.{Rules, History}
use Rattle.cache_core.specs.Residents.{in_set, distinct, before, renewals, is_resident}
use Rattle.cache_core.specs.Order.{ranked}
use Rattle.cache_core.proofs.Reuse.{has, has-take, has-ways_of, has-filter, before-filter}
use Rattle.cache_core.proofs.Cases.{by_cases}
use Rattle.cache_core.proofs.Members.{length-filter_le}
use Rattle.grid_core.specs.Ways.{with_sets, IsStacked}
use Rattle.grid_core.proofs.Distances.{renewals-size}

-- a finer filter may come after a coarser one
filter-finer : (p q : ℕ → Bool) → ((m : ℕ) → p m ≡ true → q m ≡ true) → (ms : List ℕ)
    → filter p ms ≡ filter p (filter q ms)
filter-finer p q finer [] = refl
filter-finer p q finer (m ∷ ms) = by_cases (p m)
    (λ e. rw (finer m e, e) (ap (λ l. m ∷ l) (filter-finer p q finer ms)))
    (λ e. by_cases (q m)
    (λ f. rw (f, e) (filter-finer p q finer ms))
    (λ f. rw (f, e) (filter-finer p q finer ms)))

filter-swap : (p q : ℕ → Bool) (ms : List ℕ) → filter q (filter p ms) ≡ filter p (filter q ms)
filter-swap p q [] = refl
filter-swap p q (m ∷ ms) = by_cases (p m)
    (λ e. by_cases (q m)
    (λ f. rw (e, f, e) (ap (λ l. m ∷ l) (filter-swap p q ms)))
    (λ f. rw (e, f) (filter-swap p q ms)))
    (λ e. by_cases (q m)
    (λ f. rw (e, f, e) (filter-swap p q ms))
    (λ f. rw (e, f) (filter-swap p q ms)))

-- what does not pass may be taken out before
filter-skip : (p : ℕ → Bool) (m : ℕ) → p m ≡ false → (ms : List ℕ)
    → filter p (filter (λ n. not (eqb n m)) ms) ≡ filter p ms
filter-skip p m e [] = refl
filter-skip p m e (n ∷ ms) = by_cases (eqb n m)
    (λ f. let out : p n ≡ false = subst (λ z. p z ≡ false) (sym (eqb-true n m f)) e in
    rw (f, out) (filter-skip p m e ms))
    (λ f. rw f (ap (λ l. cond (p n) (n ∷ l) l) (filter-skip p m e ms)))

-- a filter may come before or after the repetitions are taken out
pub distinct-filter : (p : ℕ → Bool) (ms : List ℕ) → distinct (filter p ms) ≡ filter p (distinct ms)
distinct-filter p [] = refl
distinct-filter p (m ∷ ms) = by_cases (p m)
    (λ e. rw e (ap (λ l. m ∷ l) (ap (filter (λ n. not (eqb n m))) (distinct-filter p ms)
    ∙ filter-swap p (λ n. not (eqb n m)) (distinct ms))))
    (λ e. rw e (distinct-filter p ms ∙ sym (filter-skip p m e (distinct ms))))

module _ (r : Rules) (st : IsStacked r) (k : ℕ) where
  abbrev q : Rules
  q = with_sets k r

  stacked-sets : IsStacked q
  stacked-sets = record { lru = st.lru; allocates = st.allocates }

  renewals-sets : (h : History) → renewals q h ≡ renewals r h
  renewals-sets = renewals-size q r stacked-sets st refl

  module _ (h : History) (b : ℕ) where
    abbrev ms : List ℕ
    ms = renewals r h

    abbrev in_finer : ℕ → Bool
    in_finer m = eqb (m % (r.sets * k)) (b % (r.sets * k))

    abbrev in_coarser : ℕ → Bool
    in_coarser m = eqb (m % r.sets) (b % r.sets)

    finer : (m : ℕ) → in_finer m ≡ true → in_coarser m ≡ true
    finer m e = eq-eqb (m % r.sets) (b % r.sets)
        (sym (mod-mod_of_dvd r.sets m (dvd-mul_right r.sets k))
        ∙ ap (λ z. z % r.sets) (eqb-true (m % (r.sets * k)) (b % (r.sets * k)) e)
        ∙ mod-mod_of_dvd r.sets b (dvd-mul_right r.sets k))

    abbrev ranks : List ℕ
    ranks = distinct (filter in_coarser ms)

    order-whole : ranked r (b % r.sets) ms ≡ ranks
    order-whole = cond-false r.fifo (in_set r (b % r.sets) ms) (distinct (in_set r
        (b % r.sets) ms)) st.lru

    -- the order of the set of b among more sets is a part of its order among fewer
    pub order-part : distinct (filter in_finer ms) ≡ filter in_finer (ranked r (b % r.sets) ms)
    order-part = ap distinct (filter-finer in_finer in_coarser finer ms)
        ∙ distinct-filter in_finer (filter in_coarser ms)
        ∙ sym (ap (filter in_finer) order-whole)

    order-among : ranked q (b % q.sets) ms ≡ filter in_finer ranks
    order-among = cond-false r.fifo (in_set q (b % q.sets) ms) (distinct (in_set q
        (b % q.sets) ms)) st.lru
        ∙ order-part ∙ ap (filter in_finer) order-whole

    pub more-holds : is_resident r (renewals r h) b ≡ true
        → is_resident q (renewals q h) b ≡ true
    more-holds here =
        let passes : in_finer b ≡ true = eq-eqb (b % (r.sets * k)) (b % (r.sets * k)) refl in
        let d = length (before b ranks) in
        let parts = and_parts (has ranks b) (ltb d r.assoc) (sym (has-take r.assoc ranks b)
        ∙ sym (ap (λ l. has (take r.assoc l) b) order-whole) ∙ has-ways_of r ms b ∙ here) in
        let near = ltb-true d r.assoc parts.1 in
        let less = length-filter_le in_finer (before b ranks) in
        sym (has-ways_of q (renewals q h) b)
        ∙ ap (λ l. has (take r.assoc (ranked q (b % q.sets) l)) b) (renewals-sets h)
        ∙ ap (λ l. has (take r.assoc l) b) order-among
        ∙ has-take r.assoc (filter in_finer ranks) b
        ∙ ap (λ t. t && ltb (length (before b (filter in_finer ranks))) r.assoc)
        (has-filter in_finer b passes ranks ∙ parts.0)
        ∙ ap (λ l. ltb (length l) r.assoc) (before-filter in_finer b passes ranks)
        ∙ lt-ltb (length (filter in_finer (before b ranks))) r.assoc (omega arith)
