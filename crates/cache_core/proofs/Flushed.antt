-- The dirty ways of all sets are the dirty blocks of the history.
use Rattle.std.proofs.Common.{◌≡◌, ℕ, zero, suc, ◌+◌, ◌*◌, ◌%◌, ◌<◌, Bool, true, false, cond, ◌&&◌}
use Rattle.std.proofs.Common.{◌||◌, eqb, List, [], ◌∷◌, ◌++◌, length, take, drop, map, filter}
use Rattle.std.proofs.Common.{replicate, refl, sym, ap, subst, ◌∙◌, ◌⊎◌, inl, inr, arith}
use Rattle.std.specs.List.{list_any, dedup}
use Rattle.std.specs.List.Sorted.{IsPermutation, IsSorted}
use Rattle.std.specs.Ordering.{nat_cmp}
use Rattle.std.proofs.Math.Nat.{mod-lt}
use Rattle.std.proofs.lemmas.Bool.{eqb-true, eq-eqb, false≢true, or_left, or_right, or_cases}
use Rattle.std.proofs.lemmas.Bool.{and_parts, and_from, true_from_ne_false}
use Rattle.std.proofs.lemmas.List.{length-drop, drop-drop}
use Rattle.std.proofs.lemmas.Map.Keys.{IsStrictlyIncreasing-dedup}
use Rattle.cache_core.specs.declared.ways.Way.{Way}
use Rattle.cache_core.specs.History.{Rules, History}
use Rattle.cache_core.specs.Residents.{renewals, is_resident}
use Rattle.cache_core.specs.Dirty.{is_written, is_dirty, dirty_blocks}
use Rattle.cache_core.specs.Order.{ranked}
use Rattle.cache_core.specs.Row.{empty_way, row, is_dirty_way, block_addr_of, way_at, row_of}
use Rattle.cache_core.proofs.Reuse.{has, has-ways_of, has-take, has-filter}
use Rattle.cache_core.proofs.Turns.{absent}
use Rattle.cache_core.proofs.Victim.{resident-renewed}
use Rattle.cache_core.proofs.Rising.{same_test, same-rising, rises-rising, has-rising}
use Rattle.cache_core.proofs.Rising.{rises-times, has-permutation, has-dedup}

-- whether some dirty way has this first byte
abbrev holds_dirty : ℕ → Way → Bool
holds_dirty z w = is_dirty_way w && eqb w.block_addr z

row-first : {X : Type 0} (n : ℕ) (xs : List X) → take n xs ≡ row n 0 xs
row-first n xs = let none : 0 ≡ 0 * n = omega arith in ap (λ j. take n (drop j xs)) none

row-next : {X : Type 0} (n t : ℕ) (xs : List X) → row n t (drop n xs) ≡ row n (suc t) xs
row-next n t xs = let on : n + t * n ≡ suc t * n = omega arith in
    ap (take n) (drop-drop (t * n) n xs ∙ ap (λ j. drop j xs) on)

module _ {X : Type 0} (q : X → Bool) where
  one_on : (n k : ℕ) (xs : List X) → (t : ℕ) × (t < k) × (list_any q (row n t (drop n xs)) ≡ true)
      → (t : ℕ) × (t < suc k) × (list_any q (row n t xs) ≡ true)
  one_on n k xs r = (
    suc r.0,
    (let lt = r.1 in omega arith),
    subst (λ l. list_any q l ≡ true) (row-next n r.0 xs) r.2,
  )

  any-take : (n : ℕ) (xs : List X) → list_any q (take n xs) ≡ true → list_any q xs ≡ true
  any-take zero xs h = cc
  any-take (suc n) [] h = h
  any-take (suc n) (x ∷ xs) h = elim (or_cases (q x) (list_any q (take n xs)) h) [
    | inl e ↦ or_left (q x) (list_any q xs) e
    | inr t ↦ or_right (q x) (list_any q xs) (any-take n xs t)
  ]

  any-drop : (n : ℕ) (xs : List X) → list_any q (drop n xs) ≡ true → list_any q xs ≡ true
  any-drop zero xs h = h
  any-drop (suc n) [] h = h
  any-drop (suc n) (x ∷ xs) h = or_right (q x) (list_any q xs) (any-drop n xs h)

  any-cut : (n : ℕ) (xs : List X) → list_any q xs ≡ true
      → (list_any q (take n xs) ≡ true) ⊎ (list_any q (drop n xs) ≡ true)
  any-cut zero xs h = inr h
  any-cut (suc n) [] h = inr h
  any-cut (suc n) (x ∷ xs) h = elim (or_cases (q x) (list_any q xs) h) [
    | inl e ↦ inl (or_left (q x) (list_any q (take n xs)) e)
    | inr t ↦ elim (any-cut n xs t)
        [ inl a ↦ inl (or_right (q x) (list_any q (take n xs)) a) | inr b ↦ inr b ]
  ]

  any-row : (n t : ℕ) (xs : List X) → list_any q (row n t xs) ≡ true → list_any q xs ≡ true
  any-row n t xs h = any-drop (t * n) xs (any-take n (drop (t * n) xs) h)

  -- if some way of all k rows passes, one row has a way that passes
  row-any : (n k : ℕ) (xs : List X) → length xs ≡ k * n → list_any q xs ≡ true
      → (t : ℕ) × (t < k) × (list_any q (row n t xs) ≡ true)
  row-any n zero [] l h = cc
  row-any n zero (x ∷ xs) l h = absurd (omega arith)
  row-any n (suc k) xs l h = elim (any-cut n xs h) [
    | inl a ↦ (0, omega arith, subst (λ l. list_any q l ≡ true) (row-first n xs) a)
    | inr b ↦ one_on n k xs (row-any n k (drop n xs) (omega (arith, length-drop n xs)) b)
  ]

any-dirty : (z : ℕ) (xs : List Way)
    → has (map block_addr_of (filter is_dirty_way xs)) z ≡ list_any (holds_dirty z) xs
any-dirty z [] = refl
any-dirty z (x ∷ xs) = (elim (is_dirty_way x) as (λ t.
    has (map block_addr_of (cond t (x ∷ filter is_dirty_way xs) (filter is_dirty_way xs))) z
    ≡ ((t && eqb x.block_addr z) || list_any (holds_dirty z) xs)) [
      | true ↦ ap (λ t. eqb x.block_addr z || t) (any-dirty z xs)
      | false ↦ any-dirty z xs
    ])

-- what a filter leaves was there, and passes
pub has-filter_both : (p : ℕ → Bool) (xs : List ℕ) (b : ℕ) → has (filter p xs) b ≡ true
    → (has xs b ≡ true) × (p b ≡ true)
has-filter_both p [] b h = cc
has-filter_both p (x ∷ xs) b h =
    (elim (p x) as (λ t. p x ≡ t → has (cond t (x ∷ filter p xs) (filter p xs)) b ≡ true
    → (has (x ∷ xs) b ≡ true) × (p b ≡ true)) [
      | true ↦ λ e g. elim (or_cases (eqb x b) (has (filter p xs) b) g) [
        | inl s ↦ (or_left (eqb x b) (has xs b) s, subst (λ v. p v ≡ true) (eqb-true x b s) e)
        | inr t ↦ further (has-filter_both p xs b t)
      ]
      | false ↦ λ e g. further (has-filter_both p xs b g)
    ]) refl h where
      further : (has xs b ≡ true) × (p b ≡ true) → (has (x ∷ xs) b ≡ true) × (p b ≡ true)
      further r = (or_right (eqb x b) (has xs b) r.0, r.1)

-- what was there and passes is left
pub filter-has : (p : ℕ → Bool) (xs : List ℕ) (b : ℕ) → has xs b ≡ true → p b ≡ true
    → has (filter p xs) b ≡ true
filter-has p xs b h e = has-filter p b e xs ∙ h

has-times : (n b : ℕ) (xs : List ℕ) → has xs b ≡ true → has (map (λ y. y * n) xs) (b * n) ≡ true
has-times n b [] h = h
has-times n b (x ∷ xs) h = elim (or_cases (eqb x b) (has xs b) h) [
  | inl e ↦ or_left (eqb (x * n) (b * n)) (has (map (λ y. y * n) xs) (b * n))
      (eq-eqb (x * n) (b * n) (ap (λ v. v * n) (eqb-true x b e)))
  | inr t ↦ or_right (eqb (x * n) (b * n)) (has (map (λ y. y * n) xs) (b * n)) (has-times n b xs t)
]

times-has : (n z : ℕ) (xs : List ℕ) → has (map (λ y. y * n) xs) z ≡ true
    → (b : ℕ) × (has xs b ≡ true) × (b * n ≡ z)
times-has n z [] h = cc
times-has n z (x ∷ xs) h = elim (or_cases (eqb (x * n) z) (has (map (λ y. y * n) xs) z) h) [
  | inl e ↦ (x, or_left (eqb x x) (has xs x) (eq-eqb x x refl), eqb-true (x * n) z e)
  | inr t ↦ let rest = times-has n z xs t in
      (rest.0, or_right (eqb x rest.0) (has xs rest.0) rest.1, rest.2)
]

-- the ways of a row that pass a test are those of its blocks, if an empty way does not pass
module _ (f : ℕ → Way) (k : ℕ) (q : Way → Bool) (none : q empty_way ≡ false) where
  none-replicate : (n j : ℕ) → list_any q (take n (replicate j empty_way)) ≡ true → ⊥
  none-replicate zero j h = false≢true h
  none-replicate (suc n) zero h = false≢true h
  none-replicate (suc n) (suc j) h = none-replicate n j (rw none at h)

  any-shown : (n : ℕ) (ms : List ℕ) → list_any q (take n (map f ms ++ replicate k empty_way)) ≡ true
      → (b : ℕ) × (has (take n ms) b ≡ true) × (q (f b) ≡ true)
  any-shown zero ms h = cc
  any-shown (suc n) [] h = absurd (none-replicate (suc n) k h)
  any-shown (suc n) (m ∷ ms) h =
      elim (or_cases (q (f m)) (list_any q (take n (map f ms ++ replicate k empty_way))) h) [
        | inl e ↦ (m, or_left (eqb m m) (has (take n ms) m) (eq-eqb m m refl), e)
        | inr t ↦ let rest = any-shown n ms t in
            (rest.0, or_right (eqb m rest.0) (has (take n ms) rest.0) rest.1, rest.2)
      ]

  shown-any : (n : ℕ) (ms : List ℕ) (b : ℕ) → has (take n ms) b ≡ true → q (f b) ≡ true
      → list_any q (take n (map f ms ++ replicate k empty_way)) ≡ true
  shown-any zero ms b h e = cc
  shown-any (suc n) [] b h e = cc
  shown-any (suc n) (m ∷ ms) b h e = elim (or_cases (eqb m b) (has (take n ms) b) h) [
    | inl s ↦ or_left (q (f m)) (list_any q (take n (map f ms ++ replicate k empty_way)))
        (subst (λ v. q (f v) ≡ true) (sym (eqb-true m b s)) e)
    | inr t ↦ or_right (q (f m)) (list_any q (take n (map f ms ++ replicate k empty_way)))
        (shown-any n ms b t e)
  ]

module _ (r : Rules) (pos : 0 < r.bsize) (setful : 0 < r.sets) (h : History) (xs : List Way)
    (long : length xs ≡ r.sets * r.assoc) (rows : (t : ℕ) → t < r.sets
    → row r.assoc t xs ≡ row_of r h t) where
  abbrev ms : List ℕ
  ms = renewals r h

  abbrev wanted : List ℕ
  wanted = map (λ b. b * r.bsize) (dirty_blocks r h)

  abbrev block_addrs : List ℕ
  block_addrs = map block_addr_of (filter is_dirty_way xs)

  in-set : (t b : ℕ) → has (ranked r t ms) b ≡ true → b % r.sets ≡ t
  in-set t b g = eqb-true (b % r.sets) t
      (true_from_ne_false (eqb (b % r.sets) t) (λ e. false≢true (sym (absent r t b ms e) ∙ g)))

  wanted-has : (b : ℕ) → is_dirty r h b ≡ true → has wanted (b * r.bsize) ≡ true
  unfolding dirty_blocks is_dirty
  wanted-has b d =
      let res : is_resident r ms b ≡ true =
      (and_parts r.wback (is_resident r ms b)
      (and_parts (r.wback && is_resident r ms b) (is_written r h b) d).0).1 in
      has-times r.bsize b (dirty_blocks r h) (has-rising (filter (is_dirty r h) ms) b
      ∙ filter-has (is_dirty r h) ms b (resident-renewed r ms b res) d)

  here-wanted : (z : ℕ) → has block_addrs z ≡ true → has wanted z ≡ true
  unfolding is_dirty row_of
  here-wanted z g =
      let one = row-any (holds_dirty z) r.assoc r.sets xs long (sym (any-dirty z xs) ∙ g) in
      let shown : list_any (holds_dirty z) (row_of r h one.0) ≡ true =
      subst (λ l. list_any (holds_dirty z) l ≡ true) (rows one.0 one.1) one.2 in
      let b = any-shown (way_at r h) r.assoc (holds_dirty z) refl r.assoc (ranked r one.0 ms)
      shown in
      let parts = and_parts (r.wback && is_written r h b.0) (eqb (b.0 * r.bsize) z) b.2 in
      let marked = and_parts r.wback (is_written r h b.0) parts.0 in
      let there : has (ranked r one.0 ms) b.0 ≡ true =
      (and_parts (has (ranked r one.0 ms) b.0) _ (sym (has-take r.assoc (ranked r one.0 ms) b.0)
      ∙ b.1)).0 in
      let res : is_resident r ms b.0 ≡ true = sym (has-ways_of r ms b.0)
      ∙ ap (λ t. has (take r.assoc (ranked r t ms)) b.0) (in-set one.0 b.0 there) ∙ b.1 in
      subst (λ v. has wanted v ≡ true) (eqb-true (b.0 * r.bsize) z parts.1)
      (wanted-has b.0 (and_from (r.wback && is_resident r ms b.0) (is_written r h b.0)
      (and_from r.wback (is_resident r ms b.0) marked.0 res) marked.1))

  wanted-here : (z : ℕ) → has wanted z ≡ true → has block_addrs z ≡ true
  unfolding dirty_blocks is_dirty row_of
  wanted-here z g =
      let b = times-has r.bsize z (dirty_blocks r h) g in
      let both = has-filter_both (is_dirty r h) ms b.0
      (sym (has-rising (filter (is_dirty r h) ms) b.0) ∙ b.1) in
      let parts = and_parts (r.wback && is_resident r ms b.0) (is_written r h b.0) both.1 in
      let inner = and_parts r.wback (is_resident r ms b.0) parts.0 in
      let t = b.0 % r.sets in
      let shown : list_any (holds_dirty z) (row_of r h t) ≡ true =
      shown-any (way_at r h) r.assoc (holds_dirty z) refl r.assoc (ranked r t ms) b.0
      (has-ways_of r ms b.0 ∙ inner.1)
      (and_from (r.wback && is_written r h b.0) (eqb (b.0 * r.bsize) z)
      (and_from r.wback (is_written r h b.0) inner.0 parts.1)
      (eq-eqb (b.0 * r.bsize) z b.2)) in
      any-dirty z xs ∙ any-row (holds_dirty z) r.assoc t xs
      (subst (λ l. list_any (holds_dirty z) l ≡ true) (sym (rows t (mod-lt b.0 setful))) shown)

  -- the first bytes of the dirty ways, sorted and without repetitions, are those of the dirty
  -- blocks in rising order
  pub flushed-is : (ys : List ℕ) → IsPermutation block_addrs ys → IsSorted nat_cmp ys
      → dedup eqb ys ≡ wanted
  unfolding dirty_blocks
  flushed-is ys p s = same-rising (dedup eqb ys) wanted (IsStrictlyIncreasing-dedup ys s)
      (rises-times r.bsize (dirty_blocks r h) pos (rises-rising (filter (is_dirty r h) ms)))
      (λ z. has-dedup ys z ∙ has-permutation block_addrs ys z p
      ∙ same_test (has block_addrs z) (has wanted z) (here-wanted z) (wanted-here z))
