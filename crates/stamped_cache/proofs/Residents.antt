-- Which blocks an LRU cache that allocates at writes holds after an access, which of them are
-- written, and what the access writes back.
use Rattle.std.proofs.Common.{◌≡◌, ◌≢◌, ℕ, suc, ◌-◌, ◌*◌, ◌%◌, ◌<◌, ◌≤◌, Bool, true, false, cond}
use Rattle.std.proofs.Common.{not, ◌&&◌, ◌||◌, eqb, List, [], ◌∷◌, ◌++◌, length, get_or, take}
use Rattle.std.proofs.Common.{Some, None, length-take, refl, sym, ap, subst, ◌∙◌, add-one, arith}
use Rattle.std.proofs.lemmas.Bool.{eqb-true, eq-eqb, ne_eqb, false≢true, and_parts, and_from}
use Rattle.std.proofs.lemmas.Bool.{false_from_ne_true, cond-true, cond-false}
use Rattle.std.proofs.lemmas.List.{take_more, take_all, get_or-take}
use Rattle.cache_core.specs.declared.access.Access.{Access}
use Rattle.cache_core.specs.History.{Rules, History}
use Rattle.cache_core.specs.Residents.{uses, hits, renews, renewals, is_resident}
use Rattle.cache_core.specs.Order.{ranked, ways_of, residents_of}
use Rattle.cache_core.specs.Dirty.{is_written, is_dirty}
use Rattle.cache_core.specs.Parts.{dirty_victim, outcome_of}
use Rattle.cache_core.proofs.AtAccess.{at_access}
use Rattle.cache_core.proofs.Cases.{by_cases}
use Rattle.cache_core.proofs.Reuse.{has, has-ways_of}
use Rattle.cache_core.proofs.Shift.{IsOnce, IsOnce-take, has-take_absent}
use Rattle.cache_core.proofs.Shadow.{eqb-comm}
use Rattle.cache_core.proofs.Members.{has-append, last-new}
use Rattle.cache_core.proofs.Turns.{renewals-yes, ranked-other, IsOnce-ranked, IsOnce-ways_of}
use Rattle.cache_core.proofs.Turns.{absent}
use Rattle.cache_core.proofs.Victim.{elsewhere, front-is, later-is, load-full, load-room, lru-same}
use Rattle.cache_core.proofs.Victim.{lru-hit}
use Rattle.cache_core.proofs.Owed.{written-other}
use Rattle.cache_core.proofs.Steps.{outcome_of-back}
use Rattle.grid_core.specs.Ways.{IsStacked}
use Rattle.grid_core.proofs.Distances.{renews-all, uses-all}
use Rattle.stamped_cache.proofs.RowLists.{has-get_or}

module _ (r : Rules) (h : History) where
  -- the residents of a set are those residents that belong to it
  pub has-residents : (t y : ℕ)
      → has (residents_of r h t) y ≡ (eqb (y % r.sets) t && is_resident r (renewals r h) y)
  has-residents t y = by_cases (eqb (y % r.sets) t)
      (λ e. subst (λ z. has (residents_of r h z) y ≡ is_resident r (renewals r h) y)
      (eqb-true (y % r.sets) t e) (has-ways_of r (renewals r h) y)
      ∙ sym (ap (λ u. u && is_resident r (renewals r h) y) e))
      (λ e. has-take_absent r.assoc y (ranked r t (renewals r h)) (absent r t y (renewals r h) e)
      ∙ sym (ap (λ u. u && is_resident r (renewals r h) y) e))

  -- no resident of a set stands twice
  pub residents-once : (t : ℕ) → IsOnce (residents_of r h t)
  residents-once t = IsOnce-ways_of r h t

  -- a resident of a set belongs to it
  pub resident-set : (t y : ℕ) → has (residents_of r h t) y ≡ true → y % r.sets ≡ t
  resident-set t y there = eqb-true (y % r.sets) t
      (and_parts (eqb (y % r.sets) t) (is_resident r (renewals r h) y)
      (sym (has-residents t y) ∙ there)).0

  -- and is resident
  pub has-resident : (t y : ℕ) → has (residents_of r h t) y ≡ true
      → is_resident r (renewals r h) y ≡ true
  has-resident t y there = (and_parts (eqb (y % r.sets) t) (is_resident r (renewals r h) y)
      (sym (has-residents t y) ∙ there)).1

spread : (e q p : Bool) → (q ≡ true → e ≡ true) → (e && (q || p)) ≡ (q || (e && p))
spread true q p k = refl
spread false true p k = absurd (false≢true (k refl))
spread false false p k = refl

spread-not : (e q p v : Bool) → (q ≡ true → e ≡ true)
    → (e && (q || (p && not v))) ≡ (q || ((e && p) && not v))
spread-not true q p v k = refl
spread-not false true p v k = absurd (false≢true (k refl))
spread-not false false p v k = refl

last-gone : (p q : Bool) → (q ≡ true → p ≡ false) → p ≡ ((p || (q || false)) && not q)
last-gone true true k = k refl
last-gone false true k = refl
last-gone true false k = refl
last-gone false false k = refl

nothing-gone : (q v p : Bool) → q ≡ false → v ≡ false → p ≡ (q || (p && not v))
nothing-gone true v p e f = absurd (false≢true (sym e))
nothing-gone false true p e f = absurd (false≢true (sym f))
nothing-gone false false true e f = refl
nothing-gone false false false e f = refl

module _ (r : Rules) (st : IsStacked r) (h : History) (x : Access) where
  open at_access r h x use {b, s, ms, h', w}

  -- an access puts its block in front
  pub access-renews : renewals r h' ≡ b ∷ ms
  access-renews = renewals-yes r h x (renews-all r st ms x)

  -- the residents of other sets stay
  pub load-elsewhere : (t : ℕ) → t ≢ s → residents_of r h' t ≡ residents_of r h t
  load-elsewhere t other = ap (ways_of r t) access-renews
      ∙ ap (take r.assoc) (ranked-other r t b ms (ne_eqb s t (λ e. other (sym e))))

  written-here : is_written r h' b ≡ (w || (is_resident r ms b && is_written r h b))
  unfolding is_written
  written-here = ap (λ t. cond t (w || (hits r ms x && is_written r h b)) (is_written r h b))
      (and_from (eqb b b) (uses r ms x) (eq-eqb b b refl) (uses-all r st ms x))

  -- which blocks are written after it
  pub written-after : (y : ℕ) → is_written r h' y
      ≡ cond (eqb b y) (w || (is_resident r ms b && is_written r h b)) (is_written r h y)
  written-after y = by_cases (eqb b y)
      (λ e. subst (λ z. is_written r h' z ≡ (w || (is_resident r ms b && is_written r h b)))
      (eqb-true b y e) written-here
      ∙ sym (cond-true (eqb b y) (w || (is_resident r ms b && is_written r h b))
      (is_written r h y) e))
      (λ e. written-other r h x y e
      ∙ sym (cond-false (eqb b y) (w || (is_resident r ms b && is_written r h b))
      (is_written r h y) e))

  -- its block belongs to its set, and no other block of another set is its block
  same-set : (y : ℕ) → eqb b y ≡ true → eqb (y % r.sets) s ≡ true
  same-set y e = eq-eqb (y % r.sets) s (ap (λ z. z % r.sets) (sym (eqb-true b y e)))

  not-here : (v y : ℕ) → eqb (v % r.sets) s ≡ true → eqb s (y % r.sets) ≡ false
      → eqb v y ≡ false
  not-here v y vs ys = false_from_ne_true (eqb v y) (λ e.
      false≢true (sym ys ∙ eqb-comm s (y % r.sets)
      ∙ subst (λ z. eqb (z % r.sets) s ≡ true) (eqb-true v y e) vs))

  module _ (some : 0 < r.assoc) where
    abbrev m : ℕ
    m = r.assoc - 1

    size : r.assoc ≡ suc m
    size = omega arith

    abbrev ranks : List ℕ
    ranks = ranked r s ms

    yes : renews r ms x ≡ true
    yes = renews-all r st ms x

    -- a hit
    module _ (hit : is_resident r ms b ≡ true) where
      -- the same blocks are resident
      pub hit-resident : (y : ℕ) → is_resident r (renewals r h') y ≡ is_resident r ms y
      hit-resident y = ap (λ l. is_resident r l y) access-renews
          ∙ by_cases (eqb s (y % r.sets))
          (λ e. lru-same r h x m size st.lru hit y e)
          (λ e. elsewhere r h x y e)

      -- also in each set
      pub hit-has : (t y : ℕ) → has (residents_of r h' t) y ≡ has (residents_of r h t) y
      hit-has t y = has-residents r h' t y
          ∙ ap (λ u. eqb (y % r.sets) t && u) (hit-resident y) ∙ sym (has-residents r h t y)

      -- and nothing is written back
      pub hit-back : (outcome_of r h x).back ≡ None
      hit-back = outcome_of-back r h x
          ∙ ap (dirty_victim r h) (lru-hit r h x m size st.lru hit (uses-all r st ms x))

    -- a load
    module _ (miss : is_resident r ms b ≡ false) where
      -- into a set with room
      module _ (room : length (residents_of r h s) < r.assoc) where
        short : length ranks ≤ m
        short = let long = length-take r.assoc ranks in omega arith

        room-here : (y : ℕ) → eqb s (y % r.sets) ≡ true
            → is_resident r (b ∷ ms) y ≡ (eqb b y || is_resident r ms y)
        room-here y e = later-is r h x m size miss yes y e
            ∙ ap (λ l. eqb b y || has l y) (take_all m ranks short
            ∙ sym (take_all (suc m) ranks (omega (arith, short))))
            ∙ ap (λ t. eqb b y || t) (sym (front-is r h x m size y e))

        -- its block becomes resident, and the others stay
        pub room-resident : (y : ℕ)
            → is_resident r (renewals r h') y ≡ (eqb b y || is_resident r ms y)
        room-resident y = ap (λ l. is_resident r l y) access-renews
            ∙ by_cases (eqb s (y % r.sets)) (room-here y)
            (λ e. elsewhere r h x y e
            ∙ sym (ap (λ t. t || is_resident r ms y) (not-here b y (eq-eqb s s refl) e)))

        pub room-has : (y : ℕ)
            → has (residents_of r h' s) y ≡ (eqb b y || has (residents_of r h s) y)
        room-has y = has-residents r h' s y
            ∙ ap (λ u. eqb (y % r.sets) s && u) (room-resident y)
            ∙ spread (eqb (y % r.sets) s) (eqb b y) (is_resident r ms y) (same-set y)
            ∙ ap (λ u. eqb b y || u) (sym (has-residents r h s y))

        -- nothing is written back
        pub room-back : (outcome_of r h x).back ≡ None
        room-back = outcome_of-back r h x
            ∙ ap (dirty_victim r h) (load-room r h x m size miss yes short)

      -- into a full set
      module _ (full : length (residents_of r h s) ≡ r.assoc) where
        -- the last of its residents
        abbrev pub last : ℕ
        last = get_or (residents_of r h s) (r.assoc - 1) 0

        long : m < length ranks
        long = let cut = length-take r.assoc ranks in omega arith

        same-last : get_or ranks m 0 ≡ last
        same-last = sym (get_or-take r.assoc ranks m 0 (omega arith))

        pub has-last : has (residents_of r h s) last ≡ true
        has-last = has-get_or (residents_of r h s) (r.assoc - 1) 0 (omega arith)

        -- it is resident
        pub full-last : is_resident r ms last ≡ true
        full-last = has-resident r h s last has-last

        split : take (suc m) ranks ≡ take m ranks ++ last ∷ []
        split = ap (λ n. take n ranks) (sym (add-one m)) ∙ take_more ranks m 0 long
            ∙ ap (λ v. take m ranks ++ v ∷ []) same-last

        once : IsOnce (take m ranks ++ last ∷ [])
        once = subst IsOnce split (IsOnce-take (suc m) ranks (IsOnce-ranked r st.lru s ms))

        full-here : (y : ℕ) → eqb s (y % r.sets) ≡ true
            → is_resident r (b ∷ ms) y ≡ (eqb b y || (is_resident r ms y && not (eqb last y)))
        full-here y e = later-is r h x m size miss yes y e
            ∙ ap (λ t. eqb b y || t) (last-gone (has (take m ranks) y) (eqb last y) (λ q.
            subst (λ z. has (take m ranks) z ≡ false) (eqb-true last y q)
            (last-new (take m ranks) last once))
            ∙ ap (λ t. t && not (eqb last y)) (sym (has-append (take m ranks) (last ∷ []) y)
            ∙ sym (ap (λ l. has l y) split) ∙ sym (front-is r h x m size y e)))

        -- its block becomes resident, the last leaves, and the others stay
        pub full-resident : (y : ℕ) → is_resident r (renewals r h') y
            ≡ (eqb b y || (is_resident r ms y && not (eqb last y)))
        full-resident y = ap (λ l. is_resident r l y) access-renews
            ∙ by_cases (eqb s (y % r.sets)) (full-here y)
            (λ e. elsewhere r h x y e ∙ nothing-gone (eqb b y) (eqb last y) (is_resident r ms y)
            (not-here b y (eq-eqb s s refl) e)
            (not-here last y (eq-eqb (last % r.sets) s (resident-set r h s last has-last)) e))

        pub full-has : (y : ℕ) → has (residents_of r h' s) y
            ≡ (eqb b y || (has (residents_of r h s) y && not (eqb last y)))
        full-has y = has-residents r h' s y
            ∙ ap (λ u. eqb (y % r.sets) s && u) (full-resident y)
            ∙ spread-not (eqb (y % r.sets) s) (eqb b y) (is_resident r ms y) (eqb last y)
            (same-set y)
            ∙ ap (λ u. eqb b y || (u && not (eqb last y))) (sym (has-residents r h s y))

        -- the last is written back if it is dirty
        pub full-back : (outcome_of r h x).back
            ≡ cond (is_dirty r h last) (Some (last * r.bsize)) None
        full-back = outcome_of-back r h x
            ∙ ap (dirty_victim r h) (load-full r h x m size miss yes long)
            ∙ ap (λ v. cond (is_dirty r h v) (Some (v * r.bsize)) None) same-last
