-- The block that leaves is the last of a full row.
use Rattle.std.proofs.Common.{◌≡◌, ℕ, zero, suc, ◌%◌, ◌<◌, ◌≤◌, Bool, true, false, not, ◌&&◌}
use Rattle.std.proofs.Common.{◌||◌, eqb, ltb, List, [], ◌∷◌, ◌++◌, length, take, get_or, Some, None}
use Rattle.std.proofs.Common.{inl, inr, refl, sym, ap, subst, ◌∙◌, add-one, arith}
use Rattle.std.proofs.lemmas.Bool.{eqb-true, eq-eqb, false≢true, or_parts, or_left, or_right}
use Rattle.std.proofs.lemmas.Bool.{true_from_ne_false, false_from_ne_true, cond-true, and_parts}
use Rattle.std.proofs.lemmas.Bool.{ltb-true, cases_lt}
use Rattle.std.proofs.lemmas.List.{take_more, take_all, take-take}
use Rattle.cache_core.specs.declared.access.Access.{Access}
use Rattle.cache_core.specs.History.{Rules, History}
use Rattle.cache_core.specs.Residents.{leaves, renews, before, hits, uses, is_resident}
use Rattle.cache_core.specs.Residents.{reuse_distance, victim}
use Rattle.cache_core.specs.Order.{ranked}
use Rattle.cache_core.proofs.AtAccess.{at_access}
use Rattle.cache_core.proofs.Reuse.{has, has-take, has-ways_of}
use Rattle.cache_core.proofs.Shift.{without, IsOnce, has-take_absent}
use Rattle.cache_core.proofs.Shadow.{eqb-comm, take-without_there, take-without_absent}
use Rattle.cache_core.proofs.Turns.{renewals-yes, renewals-no, block-hit, block-lru, ranked-fifo}
use Rattle.cache_core.proofs.Turns.{ranked-lru, ranked-other, IsOnce-ranked, IsOnce-ways_of, absent}
use Rattle.cache_core.proofs.Members.{find-one, find-nothing, and-not, has-append, has-moved}
use Rattle.cache_core.proofs.Members.{last-new, only-last, none-last}
use Rattle.cache_core.proofs.Cases.{by_cases}

-- a resident block was renewed
pub resident-renewed : (r : Rules) (ms : List ℕ) (y : ℕ) → is_resident r ms y ≡ true
    → has ms y ≡ true
unfolding is_resident
resident-renewed r ms y h = (and_parts (has ms y) (ltb (reuse_distance r ms y) r.assoc) h).0

-- a cache without ways has no resident
pub no-way : (r : Rules) (ms : List ℕ) (y : ℕ) → r.assoc ≡ 0 → is_resident r ms y ≡ true → ⊥
unfolding is_resident
no-way r ms y e res =
    let lt = ltb-true _ r.assoc (and_parts (has ms y) (ltb _ r.assoc) res).1 in
    absurd (omega arith)

module _ (r : Rules) (h : History) (x : Access) where
  open at_access r h x use {b, s, ms}

  abbrev ranks : List ℕ
  ranks = ranked r s ms

  -- where the members of every row stay, no block leaves
  victim-none : ((y : ℕ) → leaves r h x y ≡ false) → victim r h x ≡ None
  unfolding victim
  victim-none none = find-nothing (leaves r h x) none ms

  victim-one : (v : ℕ) → ((y : ℕ) → leaves r h x y ≡ eqb v y) → has ms v ≡ true
      → victim r h x ≡ Some v
  unfolding victim
  victim-one v same there = find-one (leaves r h x) v same ms
      ∙ cond-true (has ms v) (Some v) None there

  idle-stays : renews r ms x ≡ false → (y : ℕ) → leaves r h x y ≡ false
  idle-stays e y = ap (λ l. is_resident r ms y && not (is_resident r l y)) (renewals-no r h x e)
      ∙ and-not (is_resident r ms y)

  -- where the access renews nothing, no block leaves
  pub renews-none : renews r ms x ≡ false → victim r h x ≡ None
  renews-none e = victim-none (idle-stays e)

  -- a block of another set stays
  pub elsewhere : (y : ℕ) → eqb s (y % r.sets) ≡ false
      → is_resident r (b ∷ ms) y ≡ is_resident r ms y
  elsewhere y e = sym (has-ways_of r (b ∷ ms) y)
      ∙ ap (λ l. has (take r.assoc l) y) (ranked-other r (y % r.sets) b ms e) ∙ has-ways_of r ms y

  module _ (m : ℕ) (size : r.assoc ≡ suc m) where
    -- a block of this set is resident before the access just where it is among the first of the
    -- order
    pub front-is : (y : ℕ) → eqb s (y % r.sets) ≡ true
        → is_resident r ms y ≡ has (take (suc m) ranks) y
    front-is y e = sym (has-ways_of r ms y)
        ∙ ap (λ z. has (take r.assoc (ranked r z ms)) y) (sym (eqb-true s (y % r.sets) e))
        ∙ ap (λ n. has (take n ranks) y) size

    after-is : (y : ℕ) → eqb s (y % r.sets) ≡ true → (after : List ℕ)
        → ranked r s (b ∷ ms) ≡ b ∷ after
        → is_resident r (b ∷ ms) y ≡ has (take (suc m) (b ∷ after)) y
    after-is y e after is = sym (has-ways_of r (b ∷ ms) y)
        ∙ ap (λ z. has (take r.assoc (ranked r z (b ∷ ms))) y) (sym (eqb-true s (y % r.sets) e))
        ∙ ap (λ n. has (take n (ranked r s (b ∷ ms))) y) size ∙ ap (λ l. has (take (suc m) l) y) is

    -- a hit under LRU
    module _ (f : r.fifo ≡ false) (hit : hits r ms x ≡ true) where
      front-hit : has (take (suc m) ranks) b ≡ true
      front-hit = sym (front-is b (eq-eqb s s refl)) ∙ hit

      -- the residents of the set stay
      pub lru-same : (y : ℕ) → eqb s (y % r.sets) ≡ true
          → is_resident r (b ∷ ms) y ≡ is_resident r ms y
      lru-same y e = after-is y e (without b ranks) (ranked-lru r b ms f)
          ∙ ap (λ l. has (b ∷ l) y) (sym
          (take-without_there b m ranks (IsOnce-ranked r f s ms) front-hit))
          ∙ has-moved b y (take (suc m) ranks) front-hit ∙ sym (front-is y e)

      stays : (y : ℕ) → (is_resident r ms y && not (is_resident r (b ∷ ms) y)) ≡ false
      stays y = by_cases (eqb s (y % r.sets))
          (λ e. ap (λ t. is_resident r ms y && not t) (lru-same y e)
          ∙ and-not (is_resident r ms y))
          (λ e. ap (λ t. is_resident r ms y && not t) (elsewhere y e)
          ∙ and-not (is_resident r ms y))

      hit-stays : renews r ms x ≡ true → (y : ℕ) → leaves r h x y ≡ false
      hit-stays e y = ap (λ l. is_resident r ms y && not (is_resident r l y)) (renewals-yes r h x e)
          ∙ stays y

      -- so no block leaves
      pub lru-hit : uses r ms x ≡ true → victim r h x ≡ None
      lru-hit u = victim-none (hit-stays (block-lru r ms x true f u))

    -- a load
    module _ (miss : hits r ms x ≡ false) (yes : renews r ms x ≡ true) where
      -- it stands in no way of its set
      pub front-b : has (take (suc m) ranks) b ≡ false
      front-b = sym (front-is b (eq-eqb s s refl)) ∙ miss

      shorter : take m (take (suc m) ranks) ≡ take m ranks
      shorter = take-take m (suc m) ranks (omega arith)

      less-b : has (take m ranks) b ≡ false
      less-b = subst (λ l. has l b ≡ false) shorter
          (has-take_absent m b (take (suc m) ranks) front-b)

      behind : (after : List ℕ) × (ranked r s (b ∷ ms) ≡ b ∷ after) × (take m after ≡ take m ranks)
      behind = by_cases r.fifo
          (λ f. (ranks, ranked-fifo r b ms f, refl))
          (λ f. (
            without b ranks,
            ranked-lru r b ms f,
            take-without_absent b m ranks less-b,
          ))

      -- after it, b is resident, and so are the first of the order, one less than the set has ways
      pub later-is : (y : ℕ) → eqb s (y % r.sets) ≡ true
          → is_resident r (b ∷ ms) y ≡ (eqb b y || has (take m ranks) y)
      later-is y e = after-is y e behind.0 behind.1 ∙ ap (λ l. eqb b y || has l y) behind.2

      leaves-is : (y : ℕ) → leaves r h x y ≡ (is_resident r ms y && not (is_resident r (b ∷ ms) y))
      leaves-is y = ap (λ l. is_resident r ms y && not (is_resident r l y)) (renewals-yes r h x yes)

      leaves-elsewhere : (y : ℕ) → eqb s (y % r.sets) ≡ false → leaves r h x y ≡ false
      leaves-elsewhere y e = leaves-is y ∙ ap (λ t. is_resident r ms y && not t) (elsewhere y e)
          ∙ and-not (is_resident r ms y)

      leaves-here : (y : ℕ) → eqb s (y % r.sets) ≡ true
          → leaves r h x y ≡ (has (take (suc m) ranks) y && not (eqb b y || has (take m ranks) y))
      leaves-here y e = leaves-is y ∙ ap (λ t. t && not (is_resident r (b ∷ ms) y)) (front-is y e)
          ∙ ap (λ t. has (take (suc m) ranks) y && not t) (later-is y e)

      by_set : (y : ℕ) (t : Bool) → (eqb s (y % r.sets) ≡ false → leaves r h x y ≡ t)
          → (eqb s (y % r.sets) ≡ true → leaves r h x y ≡ t) → leaves r h x y ≡ t
      by_set y t no' yes' = by_cases (eqb s (y % r.sets)) (yes') (no')

      -- the row has room
      room-stays : length ranks ≤ m → (y : ℕ) → leaves r h x y ≡ false
      room-stays le y = by_set y false (leaves-elsewhere y) (λ e. leaves-here y e
          ∙ ap (λ l. has l y && not (eqb b y || has (take m ranks) y))
          (take_all (suc m) ranks (omega arith) ∙ sym (take_all m ranks le))
          ∙ none-last (has (take m ranks) y) (eqb b y))

      -- then none leaves
      pub load-room : length ranks ≤ m → victim r h x ≡ None
      load-room le = victim-none (room-stays le)

      module _ (full : m < length ranks) where
        abbrev last : ℕ
        last = get_or ranks m 0

        split : take (suc m) ranks ≡ take m ranks ++ last ∷ []
        split = ap (λ n. take n ranks) (sym (add-one m)) ∙ take_more ranks m 0 full

        once : IsOnce (take m ranks ++ last ∷ [])
        once = subst IsOnce (ap (λ n. take n ranks) size ∙ split) (IsOnce-ways_of r h s)

        last-front : has (take (suc m) ranks) last ≡ true
        last-front = ap (λ l. has l last) split ∙ has-append (take m ranks) (last ∷ []) last
            ∙ or_right (has (take m ranks) last) (eqb last last || false)
            (or_left (eqb last last) false (eq-eqb last last refl))

        last-ranked : has ranks last ≡ true
        last-ranked = (and_parts (has ranks last) (ltb (length (before last ranks)) (suc m))
            (sym (has-take (suc m) ranks last) ∙ last-front)).0

        last-set : eqb (last % r.sets) s ≡ true
        last-set = true_from_ne_false (eqb (last % r.sets) s) (λ e.
            false≢true (sym (absent r s last ms e) ∙ last-ranked))

        -- the row is full, and its last block is resident
        pub last-resident : is_resident r ms last ≡ true
        last-resident = front-is last (eqb-comm s (last % r.sets) ∙ last-set) ∙ last-front

        last-renewed : has ms last ≡ true
        last-renewed = resident-renewed r ms last last-resident

        not-b : eqb b last ≡ false
        not-b = eqb-comm b last ∙ (or_parts (eqb last b) false
            (or_parts (has (take m ranks) b) (has (last ∷ []) b)
            (sym (has-append (take m ranks) (last ∷ []) b) ∙ sym (ap (λ l. has l b) split)
            ∙ front-b)).1).0

        full-leaves : (y : ℕ) → leaves r h x y ≡ eqb last y
        full-leaves y = by_set y (eqb last y)
            (λ e. leaves-elsewhere y e ∙ sym
            (false_from_ne_true (eqb last y) (λ q.
            false≢true (sym e ∙ subst (λ z. eqb s (z % r.sets) ≡ true) (eqb-true last y q)
            (eqb-comm s (last % r.sets) ∙ last-set)))))
            (λ e. leaves-here y e ∙ ap (λ l. has l y && not (eqb b y || has (take m ranks) y)) split
            ∙ ap (λ t. t && not (eqb b y || has (take m ranks) y))
            (has-append (take m ranks) (last ∷ []) y)
            ∙ only-last (has (take m ranks) y) (eqb last y) (eqb b y) (λ q. let same : last ≡ y =
            eqb-true last y q in (
              subst (λ z. has (take m ranks) z ≡ false) same
                  (last-new (take m ranks) last once),
              subst (λ z. eqb b z ≡ false) same not-b,
            )))

        -- then that one leaves
        pub load-full : victim r h x ≡ Some last
        load-full = victim-one last full-leaves last-renewed

      -- a load makes one block leave at most
      load-one : (y z : ℕ) → leaves r h x y ≡ true → leaves r h x z ≡ true → y ≡ z
      load-one y z p q = elim (cases_lt m (length ranks)) [
        | inl full ↦ sym (eqb-true _ y (sym (full-leaves full y) ∙ p))
            ∙ eqb-true _ z (sym (full-leaves full z) ∙ q)
        | inr le ↦ absurd (false≢true (sym (room-stays le y) ∙ p))
      ]

  only-one_by : (n : ℕ) → r.assoc ≡ n → (y z : ℕ) → leaves r h x y ≡ true → leaves r h x z ≡ true
      → y ≡ z
  only-one_by zero e y z p q = absurd (no-way r ms y e (and_parts (is_resident r ms y) _ p).0)
  only-one_by (suc m) e y z p q = by_cases (renews r ms x)
      (λ yes'. by_cases (hits r ms x)
      (λ hit. by_cases r.fifo
      (λ f. absurd (false≢true (sym (block-hit r ms x f hit) ∙ yes')))
      (λ f. absurd (false≢true (sym (hit-stays m e f hit yes' y) ∙ p))))
      (λ miss. load-one m e miss yes' y z p q))
      (λ idle. absurd (false≢true (sym (idle-stays idle y) ∙ p)))

  -- at most one block leaves
  pub only-one : (y z : ℕ) → leaves r h x y ≡ true → leaves r h x z ≡ true → y ≡ z
  only-one y z p q = only-one_by r.assoc refl y z p q
