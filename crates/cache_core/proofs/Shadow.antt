-- The shadow is an LRU cache of one set.
use Rattle.std.proofs.Common.{◌≡◌, ℕ, zero, suc, ◌-◌, ◌%◌, Bool, true, false, cond, not, ◌&&◌, ◌||◌}
use Rattle.std.proofs.Common.{eqb, nat_eq, List, [], ◌∷◌, take, map, Some, None, is_some, refl, sym}
use Rattle.std.proofs.Common.{ap, subst, ◌∙◌, arith}
use Rattle.std.specs.Map.{lookup, lookup_entry, remove_entry}
use Rattle.std.specs.Option.{option_map_or}
use Rattle.std.proofs.lemmas.Bool.{eqb-true, eq-eqb, eqb-false, ne_eqb, or_parts, or_right}
use Rattle.std.proofs.lemmas.List.{take-map, take-take}
use Rattle.lru.specs.LruCache.{lru_cache, promoted, put_entries}
use Rattle.cache_core.specs.History.{Rules, History, access, block_of, is_write}
use Rattle.cache_core.specs.Residents.{in_set, hits, uses, renewals, is_resident}
use Rattle.cache_core.specs.Kinds.{shadow_of}
use Rattle.cache_core.specs.Order.{ranked, ways_of}
use Rattle.cache_core.specs.declared.access.Access.{Access}
use Rattle.cache_core.proofs.Reuse.{has, has-ways_of}
use Rattle.cache_core.proofs.Turns.{renewals-yes, renewals-no, ranked-lru}
use Rattle.cache_core.proofs.Shift.{without, without-absent, IsOnce, IsOnce-take, IsOnce-distinct}
use Rattle.cache_core.proofs.Shift.{has-take_absent}
use Rattle.cache_core.proofs.Cases.{by_cases}

-- the test for equality is the same both ways round
pub eqb-comm : (a b : ℕ) → eqb a b ≡ eqb b a
eqb-comm a b = (elim (eqb a b) as (λ t. eqb a b ≡ t → t ≡ eqb b a) [
  | true ↦ λ e. sym (eq-eqb b a (sym (eqb-true a b e)))
  | false ↦ λ e. sym (ne_eqb b a (λ same. eqb-false a b e (sym same)))
]) refl

-- an entry of the shadow, which marks nothing
abbrev pub pair : ℕ → ℕ × Unit {0}
pair b = (b, tt)

module _ (b : ℕ) where
  entry-found : (ys : List ℕ) → lookup_entry (nat_eq b) (map pair ys)
      ≡ cond (has ys b) (Some (pair b)) None
  entry-found [] = refl
  entry-found (y ∷ ys) = by_cases (eqb y b)
      (λ e. rw (eqb-comm b y, e) (ap (λ z. Some (pair z)) (eqb-true y b e)))
      (λ e. rw (eqb-comm b y, e) (entry-found ys))

  pub is_some-lookup : (ys : List ℕ) → is_some (lookup (nat_eq b) (map pair ys)) ≡ has ys b
  is_some-lookup [] = refl
  is_some-lookup (y ∷ ys) = by_cases (eqb y b)
      (λ e. rw (eqb-comm b y, e) refl)
      (λ e. rw (eqb-comm b y, e) (is_some-lookup ys))

  removed : (ys : List ℕ) → IsOnce ys
      → remove_entry (nat_eq b) (map pair ys) ≡ map pair (without b ys)
  removed [] o = refl
  removed (y ∷ ys) o = by_cases (eqb y b)
      (λ e. rw (eqb-comm b y, e)
      (ap (map pair) (sym (without-absent ys b
      (subst (λ z. has ys z ≡ false) (eqb-true y b e) o.0)))))
      (λ e. rw (eqb-comm b y, e) (ap (λ l. pair y ∷ l) (removed ys o.1)))

  promoted-there : (ys : List ℕ) → IsOnce ys → has ys b ≡ true
      → promoted (nat_eq b) (map pair ys) ≡ map pair (b ∷ without b ys)
  promoted-there ys o h = ap (λ o.
      option_map_or (λ e. e ∷ remove_entry (nat_eq b) (map pair ys)) o (map pair ys))
      (entry-found ys ∙ ap (λ t. cond t (Some (pair b)) None) h)
      ∙ ap (λ l. pair b ∷ l) (removed ys o)

  promoted-absent : (ys : List ℕ) → has ys b ≡ false
      → promoted (nat_eq b) (map pair ys) ≡ map pair ys
  promoted-absent ys h = ap (λ o.
      option_map_or (λ e. e ∷ remove_entry (nat_eq b) (map pair ys)) o (map pair ys))
      (entry-found ys ∙ ap (λ t. cond t (Some (pair b)) None) h)

  put-absent : (ys : List ℕ) (n : ℕ) → has ys b ≡ false
      → put_entries nat_eq (lru_cache (map pair ys) n) b tt ≡ pair b ∷ take (n - 1) (map pair ys)
  put-absent ys n h = ap (λ o. option_map_or (λ e.
      (e.0, tt) ∷ remove_entry (nat_eq b) (map pair ys)) o ((b, tt) ∷ take (n - 1) (map pair ys)))
      (entry-found ys ∙ ap (λ t. cond t (Some (pair b)) None) h)

  -- the first members of a list, if b is one of them, without b
  pub take-without_there : (m : ℕ) (ys : List ℕ) → IsOnce ys → has (take (suc m) ys) b ≡ true
      → without b (take (suc m) ys) ≡ take m (without b ys)
  take-without_there m [] o h = cc
  take-without_there m (y ∷ ys) o h =
      by_cases (eqb y b)
      (λ e. let none : has ys b ≡ false =
      subst (λ z. has ys z ≡ false) (eqb-true y b e) o.0 in
      rw e (without-absent (take m ys) b (has-take_absent m b ys none)
      ∙ ap (take m) (sym (without-absent ys b none))))
      (λ e. rw e (further (λ k g. take-without_there k ys o.1 g) m (sym (rw e refl) ∙ h))) where
        further : ((k : ℕ) → has (take (suc k) ys) b ≡ true
            → without b (take (suc k) ys) ≡ take k (without b ys)) → (k : ℕ)
            → has (take k ys) b ≡ true
            → y ∷ without b (take k ys) ≡ take k (y ∷ without b ys)
        further again zero g = cc
        further again (suc k) g = ap (λ l. y ∷ l) (again k g)

  -- the first members of a list, if b is not one of them
  pub take-without_absent : (m : ℕ) (ys : List ℕ) → has (take m ys) b ≡ false
      → take m (without b ys) ≡ take m ys
  take-without_absent zero ys h = refl
  take-without_absent (suc m) [] h = refl
  take-without_absent (suc m) (y ∷ ys) h = let parts = or_parts (eqb y b) (has (take m ys) b) h in
      rw parts.0 (ap (λ l. y ∷ l) (take-without_absent m ys parts.1))

-- the entries of the shadow after an access, as a clause of `MissClassifier::classify` has them
abbrev pub after_classify : ℕ → Bool → ℕ → List (ℕ × Unit {0}) → List (ℕ × Unit {0})
after_classify b load cap es =
    let in_shadow = is_some (lookup (nat_eq b) es) in
    cond (not in_shadow && load) (put_entries nat_eq (lru_cache (promoted (nat_eq b) es) cap) b tt)
    (promoted (nat_eq b) es)

module _ (b m : ℕ) (ys : List ℕ) (once : IsOnce ys) where
  abbrev front : List ℕ
  front = take (suc m) ys

  classify-there : (load : Bool) → has front b ≡ true
      → after_classify b load (suc m) (map pair front) ≡ map pair (take (suc m) (b ∷ without b ys))
  classify-there load h =
      ap (λ t. cond (not t && load) (put_entries nat_eq
      (lru_cache (promoted (nat_eq b) (map pair front)) (suc m)) b tt)
      (promoted (nat_eq b) (map pair front))) (is_some-lookup b front ∙ h)
      ∙ promoted-there b front (IsOnce-take (suc m) ys once) h
      ∙ ap (λ l. map pair (b ∷ l)) (take-without_there b m ys once h)

  classify-load : has front b ≡ false
      → after_classify b true (suc m) (map pair front) ≡ map pair (take (suc m) (b ∷ without b ys))
  classify-load h =
      ap (λ t. cond (not t && true) (put_entries nat_eq
      (lru_cache (promoted (nat_eq b) (map pair front)) (suc m)) b tt)
      (promoted (nat_eq b) (map pair front))) (is_some-lookup b front ∙ h)
      ∙ ap (λ l. put_entries nat_eq (lru_cache l (suc m)) b tt) (promoted-absent b front h)
      ∙ put-absent b front (suc m) h
      ∙ ap (λ l. pair b ∷ l) (ap (λ n. take n (map pair front)) (omega arith)
      ∙ take-map pair m front ∙ ap (map pair) (shorter
      ∙ sym (take-without_absent b m ys
      (subst (λ l. has l b ≡ false) shorter (has-take_absent m b front h))))) where
        shorter : take m front ≡ take m ys
        shorter = take-take m (suc m) ys (omega arith)

  classify-pass : has front b ≡ false
      → after_classify b false (suc m) (map pair front) ≡ map pair front
  classify-pass h =
      ap (λ t. cond (not t && false)
      (put_entries nat_eq (lru_cache (promoted (nat_eq b) (map pair front)) (suc m)) b tt)
      (promoted (nat_eq b) (map pair front))) (is_some-lookup b front ∙ h)
      ∙ promoted-absent b front h

  classify-all : (load : Bool) → after_classify b load (suc m) (map pair front)
      ≡ map pair (take (suc m) (cond (load || has front b) (b ∷ without b ys) ys))
  classify-all load = (elim (has front b) as (λ t. has front b ≡ t
      → after_classify b load (suc m) (map pair front)
      ≡ map pair (take (suc m) (cond (load || t) (b ∷ without b ys) ys))) [
        | true ↦ λ e. classify-there load e
            ∙ ap (λ t. map pair (take (suc m) (cond t (b ∷ without b ys) ys)))
            (sym (or_right load true refl))
        | false ↦ λ e. (elim load as (λ l. after_classify b l (suc m) (map pair front)
            ≡ map pair (take (suc m) (cond (l || false) (b ∷ without b ys) ys)))
            [ true ↦ classify-load e | false ↦ classify-pass e ])
      ]) refl

mod_one : (n : ℕ) → n % 1 ≡ 0
mod_one n = omega arith

module _ (r : Rules) (h : History) (x : Access) (m : ℕ) (size : r.blocks ≡ suc m) where
  abbrev s : Rules
  s = shadow_of r

  abbrev b : ℕ
  b = block_of r x

  abbrev ms : List ℕ
  ms = renewals s h

  abbrev shown : History → List (ℕ × Unit {0})
  shown g = map pair (ways_of s 0 (renewals s g))

  hit-there : has (ways_of s 0 ms) b ≡ hits s ms x
  hit-there = subst (λ z. has (ways_of s z ms) b ≡ is_resident s ms b) (mod_one b)
      (has-ways_of s ms b)

  -- the shadow has the block just where the access hits in the fully associative cache
  pub in_shadow-is : is_some (lookup (nat_eq b) (shown h)) ≡ hits s ms x
  in_shadow-is = is_some-lookup b (ways_of s 0 ms) ∙ hit-there

  abbrev ranks : List ℕ
  ranks = ranked s 0 ms

  load : Bool
  load = not (is_write x) || r.walloc

  classified : after_classify b load r.blocks (shown h)
      ≡ map pair (take r.blocks (cond (load || has (ways_of s 0 ms) b) (b ∷ without b ranks) ranks))
  classified = subst (λ n. after_classify b load n (map pair (take n ranks))
      ≡ map pair (take n (cond (load || has (take n ranks) b) (b ∷ without b ranks) ranks)))
      (sym size) (classify-all b m ranks (IsOnce-distinct (in_set s 0 ms)) load)

  ranked-used : ranked s 0 (b ∷ ms) ≡ b ∷ without b ranks
  ranked-used = subst (λ z. ranked s z (b ∷ ms) ≡ b ∷ without b (ranked s z ms)) (mod_one b)
      (ranked-lru s b ms refl)

  ranks-after : cond (load || has (ways_of s 0 ms) b) (b ∷ without b ranks) ranks
      ≡ ranked s 0 (renewals s (access x ∷ h))
  unfolding load
  ranks-after = ap (λ t. cond (load || t) (b ∷ without b ranks) ranks) hit-there
      ∙ (elim (uses s ms x) as (λ t. uses s ms x ≡ t
      → cond t (b ∷ without b ranks) ranks ≡ ranked s 0 (renewals s (access x ∷ h))) [
        | true ↦ λ e. sym (ap (ranked s 0) (renewals-yes s h x e) ∙ ranked-used)
        | false ↦ λ e. sym (ap (ranked s 0) (renewals-no s h x e))
      ]) refl

  -- after the access, the shadow has that cache's residents
  pub shadow-step : after_classify b (not (is_write x) || r.walloc) r.blocks (shown h)
      ≡ shown (access x ∷ h)
  unfolding load
  shadow-step = classified ∙ ap (λ l. map pair (take r.blocks l)) ranks-after
