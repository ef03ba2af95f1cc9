-- Caches of as many sets, LRU, that allocate at writes: one order serves every number of ways.
use Rattle.std.proofs.Common.{◌≡◌, ℕ, ◌/◌, ◌%◌, ◌≤◌, Bool, true, false, cond, not, ◌&&◌, ◌||◌, ltb}
use Rattle.std.proofs.Common.{List, [], ◌∷◌, length, take, refl, sym, ap, ◌∙◌, arith}
use Rattle.std.proofs.lemmas.Bool.{or_left, or_right, and_parts, le-ltb, lt-ltb, ltb-true}
use Rattle.std.proofs.lemmas.Bool.{ltb-false}
use Rattle.cache_core.specs.declared.access.Access.{Access}
use Rattle.cache_core.specs.History.{Rules, History, access, flush, block_of, is_write}
use Rattle.cache_core.specs.Residents.{in_set, distinct, before, hits, uses, renews, renewals}
use Rattle.cache_core.specs.Residents.{is_resident, reuse_distance}
use Rattle.cache_core.specs.Order.{ranked}
use Rattle.cache_core.proofs.Reuse.{has, has-take, has-ways_of, before-distinct}
use Rattle.cache_core.proofs.Turns.{renewals-yes, block-lru}
use Rattle.grid_core.specs.Ways.{with_ways, IsStacked, stack_distance}

module _ (r : Rules) (st : IsStacked r) where
  -- every access uses its block
  pub uses-all : (ms : List ℕ) (x : Access) → uses r ms x ≡ true
  uses-all ms x = or_left (not (is_write x) || r.walloc) (hits r ms x)
      (or_right (not (is_write x)) r.walloc st.allocates)

  -- so it renews its block
  pub renews-all : (ms : List ℕ) (x : Access) → renews r ms x ≡ true
  renews-all ms x = block-lru r ms x true st.lru (uses-all ms x)

-- caches of one block size use the same blocks, in the same order
module _ (q r : Rules) (sq : IsStacked q) (sr : IsStacked r) (same : q.bsize ≡ r.bsize) where
  pub renewals-size : (h : History) → renewals q h ≡ renewals r h
  unfolding renewals
  renewals-size [] = refl
  renewals-size (flush ∷ h) = refl
  renewals-size (access x ∷ h) =
      renewals-yes q h x (renews-all q sq (renewals q h) x)
      ∙ ap (λ n. x.addr / n ∷ renewals q h) same
      ∙ ap (λ l. block_of r x ∷ l) (renewals-size h)
      ∙ sym (renewals-yes r h x (renews-all r sr (renewals r h) x))

-- other numbers of ways keep the policy
pub stacked-ways : (n : ℕ) (r : Rules) → IsStacked r → IsStacked (with_ways n r)
stacked-ways n r st = record { lru = st.lru; allocates = st.allocates }

module _ (r : Rules) (st : IsStacked r) (n : ℕ) where
  -- the blocks are used in the same order, whatever the number of ways
  pub renewals-same : (h : History) → renewals (with_ways n r) h ≡ renewals r h
  renewals-same = renewals-size (with_ways n r) r (stacked-ways n r st) st refl

  -- the residents of n ways are the first n of the order
  pub resident-take : (h : History) (b : ℕ)
      → is_resident (with_ways n r) (renewals (with_ways n r) h) b
      ≡ has (take n (ranked r (b % r.sets) (renewals r h))) b
  resident-take h b = sym (has-ways_of (with_ways n r) (renewals (with_ways n r) h) b)
      ∙ ap (λ ms. has (take n (ranked r (b % r.sets) ms)) b) (renewals-same h)

-- the place of b among the first, or their number
abbrev pub place_in : ℕ → List ℕ → ℕ → ℕ
place_in most ms b = cond (has (take most ms) b) (length (before b ms)) most

cut : (t u : Bool) (d most n : ℕ) → n ≤ most → u ≡ ltb d most
    → (t && ltb d n) ≡ ltb (cond (t && u) d most) n
cut false u d most n le e = sym (le-ltb most n le)
cut true true d most n le e = refl
cut true false d most n le e =
    let far = ltb-false d most (sym e) in
    le-ltb d n (omega arith) ∙ sym (le-ltb most n le)

-- b is among the first n just if its place is less than n
pub take-place : (n most : ℕ) (ms : List ℕ) (b : ℕ) → n ≤ most
    → has (take n ms) b ≡ ltb (place_in most ms b) n
take-place n most ms b le = has-take n ms b
    ∙ cut (has ms b) (ltb (length (before b ms)) most) (length (before b ms)) most n le refl
    ∙ ap (λ t. ltb (cond t (length (before b ms)) most) n) (sym (has-take most ms b))

module _ (r : Rules) (st : IsStacked r) where
  -- the stack distance is the place in the order
  pub distance-place : (h : History) (b : ℕ)
      → stack_distance r h b ≡ place_in r.assoc (ranked r (b % r.sets) (renewals r h)) b
  unfolding stack_distance reuse_distance
  distance-place h b =
      ap (λ t. cond t (length (cond r.fifo (before b (in_set r (b % r.sets) (renewals r h)))
      (distinct (before b (in_set r (b % r.sets) (renewals r h)))))) r.assoc)
      (sym (has-ways_of r (renewals r h) b))
      ∙ ap (λ k. cond (has (take r.assoc (ranked r (b % r.sets) (renewals r h))) b) k r.assoc)
      (lru-length h b)
    where
      lru-length : (h : History) (b : ℕ)
          → length (cond r.fifo (before b (in_set r (b % r.sets) (renewals r h)))
          (distinct (before b (in_set r (b % r.sets) (renewals r h)))))
          ≡ length (before b (ranked r (b % r.sets) (renewals r h)))
      lru-length h b = let ms = in_set r (b % r.sets) (renewals r h) in
          ap (λ t. length (cond t (before b ms) (distinct (before b ms)))) st.lru
          ∙ ap length (sym (before-distinct ms b))
          ∙ sym (ap (λ t. length (before b (cond t ms (distinct ms)))) st.lru)

  -- one distance tells the hits of every number of ways
  pub hits-distance : (n : ℕ) → n ≤ r.assoc → (h : History) (x : Access)
      → hits (with_ways n r) (renewals (with_ways n r) h) x
      ≡ ltb (stack_distance r h (block_of r x)) n
  hits-distance n le h x = let b = block_of r x in
      resident-take r st n h b
      ∙ take-place n r.assoc (ranked r (b % r.sets) (renewals r h)) b le
      ∙ ap (λ d. ltb d n) (sym (distance-place h b))

  -- inclusion
  pub wider-holds : (m n : ℕ) → m ≤ n → (h : History) (b : ℕ)
      → is_resident (with_ways m r) (renewals (with_ways m r) h) b ≡ true
      → is_resident (with_ways n r) (renewals (with_ways n r) h) b ≡ true
  wider-holds m n le h b here =
      let ms = ranked r (b % r.sets) (renewals r h) in
      let d = length (before b ms) in
      let parts = and_parts (has ms b) (ltb d m)
      (sym (has-take m ms b) ∙ sym (resident-take r st m h b) ∙ here) in
      let near = ltb-true d m parts.1 in
      resident-take r st n h b ∙ has-take n ms b
      ∙ ap (λ t. t && ltb d n) parts.0 ∙ lt-ltb d n (omega arith)
