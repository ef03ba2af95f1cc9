-- At an access, each block that is written back was dirty, or is charged to the write.
use Rattle.std.proofs.Common.{◌≡◌, ℕ, zero, suc, ◌+◌, ◌*◌, ◌%◌, ◌≤◌, Bool, true, false, cond, not}
use Rattle.std.proofs.Common.{◌&&◌, ◌||◌, eqb, ltb, List, [], ◌∷◌, length, take, filter, Option}
use Rattle.std.proofs.Common.{Some, None, is_some, inl, inr, refl, sym, ap, subst, ◌∙◌, arith}
use Rattle.std.specs.List.{find}
use Rattle.std.specs.List.Sorted.{IsStrictlyIncreasing}
use Rattle.std.proofs.lemmas.Bool.{eqb-true, eq-eqb, false≢true, or_left, or_right, or_cases}
use Rattle.std.proofs.lemmas.Bool.{and_parts, and_from, ltb-true, lt-ltb, not-true}
use Rattle.std.proofs.lemmas.Bool.{false_from_ne_true}
use Rattle.cache_core.specs.declared.access.Access.{Access}
use Rattle.cache_core.specs.History.{Rules, History}
use Rattle.cache_core.specs.Residents.{hits, uses, renews, renewals, is_resident, leaves, victim}
use Rattle.cache_core.specs.Dirty.{is_written, is_dirty, dirty_blocks}
use Rattle.cache_core.specs.Parts.{dirty_victim, outcome_of, part_count}
use Rattle.cache_core.specs.Order.{ranked}
use Rattle.cache_core.proofs.AtAccess.{at_access}
use Rattle.cache_core.proofs.Reuse.{has, has-take}
use Rattle.cache_core.proofs.Shift.{IsOnce}
use Rattle.cache_core.proofs.Rising.{not-itself, rest-rises, rises-rising, has-rising}
use Rattle.cache_core.proofs.Flushed.{has-filter_both, filter-has}
use Rattle.cache_core.proofs.Turns.{renewals-yes, renewals-no, block-hit}
use Rattle.cache_core.proofs.Victim.{resident-renewed, no-way, elsewhere, front-is, later-is}
use Rattle.cache_core.proofs.Victim.{lru-same}
use Rattle.cache_core.proofs.Members.{as_many}
use Rattle.cache_core.proofs.Cases.{by_cases}

rises-once : (xs : List ℕ) → IsStrictlyIncreasing xs → IsOnce xs
rises-once [] r = tt
rises-once (x ∷ xs) r = (not-itself x xs r, rises-once xs (rest-rises x xs r))

take-mono : (m y : ℕ) (l : List ℕ) → has (take m l) y ≡ true → has (take (suc m) l) y ≡ true
take-mono m y l h = let p = and_parts (has l y) (ltb _ m) (sym (has-take m l y) ∙ h) in
    has-take (suc m) l y ∙ and_from (has l y) (ltb _ (suc m)) p.0
    (lt-ltb _ (suc m) (let lt = ltb-true _ m p.1 in omega arith))

-- what a search finds passes
pub find-passes : (p : ℕ → Bool) (xs : List ℕ) (v : ℕ) → find p xs ≡ Some v → p v ≡ true
find-passes p [] v e = cc
find-passes p (x ∷ xs) v e = (elim (p x) as (λ t. p x ≡ t → cond t (Some x) (find p xs) ≡ Some v
    → p v ≡ true) [
      | true ↦ λ q g. let same : x ≡ v = cc in subst (λ z. p z ≡ true) same q
      | false ↦ λ q g. find-passes p xs v g
    ]) refl e

module _ (r : Rules) (h : History) where
  -- in a cache that writes back, a dirty block is a resident one that is written
  pub dirty-parts : (y : ℕ) → is_dirty r h y ≡ true
      → (r.wback ≡ true) × (is_resident r (renewals r h) y ≡ true) × (is_written r h y ≡ true)
  unfolding is_dirty
  dirty-parts y d = let p = and_parts (r.wback && is_resident r (renewals r h) y)
      (is_written r h y) d in let q = and_parts r.wback (is_resident r (renewals r h) y) p.0 in
      (q.0, q.1, p.1)

  -- and each of these is dirty
  pub dirty-from : (y : ℕ) → r.wback ≡ true → is_resident r (renewals r h) y ≡ true
      → is_written r h y ≡ true → is_dirty r h y ≡ true
  unfolding is_dirty
  dirty-from y a b c = and_from (r.wback && is_resident r (renewals r h) y) (is_written r h y)
      (and_from r.wback (is_resident r (renewals r h) y) a b) c

  -- the list of dirty blocks has each dirty block
  pub dirty-has : (y : ℕ) → is_dirty r h y ≡ true → has (dirty_blocks r h) y ≡ true
  unfolding dirty_blocks
  dirty-has y d = has-rising (filter (is_dirty r h) (renewals r h)) y
      ∙ filter-has (is_dirty r h) (renewals r h) y
      (resident-renewed r (renewals r h) y (dirty-parts y d).1) d

  -- and no other
  pub has-dirty : (y : ℕ) → has (dirty_blocks r h) y ≡ true → is_dirty r h y ≡ true
  unfolding dirty_blocks
  has-dirty y g = (has-filter_both (is_dirty r h) (renewals r h) y
      (sym (has-rising (filter (is_dirty r h) (renewals r h)) y) ∙ g)).1

  -- no dirty block stands twice in their list
  pub dirty-once : IsOnce (dirty_blocks r h)
  unfolding dirty_blocks
  dirty-once = rises-once _ (rises-rising (filter (is_dirty r h) (renewals r h)))

  -- a victim that is written back is one of the dirty blocks
  pub victim-counts : (o : Option ℕ) → cond (is_some (dirty_victim r h o)) 1 0
      ≤ length (dirty_blocks r h)
  victim-counts None = omega arith
  victim-counts (Some v) = (elim (is_dirty r h v) as (λ t. is_dirty r h v ≡ t
      → cond (is_some (cond t (Some (v * r.bsize)) None)) 1 0 ≤ length (dirty_blocks r h)) [
        | true ↦ λ d. let there = dirty-has v d in
            as_many (v ∷ []) (dirty_blocks r h) (refl, tt) (λ z g.
            elim (or_cases (eqb v z) false g) [
              | inl q ↦ subst (λ k. has (dirty_blocks r h) k ≡ true) (eqb-true v z q) there
              | inr q ↦ absurd (false≢true q)
            ])
        | false ↦ λ d. omega arith
      ]) refl

module _ (r : Rules) (h : History) (x : Access) where
  open at_access r h x use {b, s, ms, h', w}

  in-front : (m : ℕ) → r.assoc ≡ suc m → renews r ms x ≡ true → (y : ℕ) → eqb b y ≡ false
      → is_resident r (b ∷ ms) y ≡ true → is_resident r ms y ≡ true
  in-front m size yes' y other res =
      by_cases (eqb s (y % r.sets))
      (λ e. by_cases (hits r ms x)
      (λ hit. by_cases r.fifo
      (λ f. absurd (false≢true (sym (block-hit r ms x f hit) ∙ yes')))
      (λ f. sym (lru-same r h x m size f hit y e) ∙ res))
      (λ miss. front-is r h x m size y e
      ∙ take-mono m y (ranked r s ms)
      (sym (ap (λ t. t || has (take m (ranked r s ms)) y) other)
      ∙ sym (later-is r h x m size miss yes' y e) ∙ res)))
      (λ e. sym (elsewhere r h x y e) ∙ res)

  others-by : (n : ℕ) → r.assoc ≡ n → (y : ℕ) → eqb b y ≡ false
      → is_resident r (renewals r h') y ≡ true → is_resident r ms y ≡ true
  others-by zero e y other res = absurd (no-way r (renewals r h') y e res)
  others-by (suc m) e y other res =
      by_cases (renews r ms x)
      (λ g. in-front m e g y other
      (sym (ap (λ l. is_resident r l y) (renewals-yes r h x g))
      ∙ res))
      (λ g. sym (ap (λ l. is_resident r l y) (renewals-no r h x g)) ∙ res)

  -- an access makes no other block resident
  pub others : (y : ℕ) → eqb b y ≡ false → is_resident r (renewals r h') y ≡ true
      → is_resident r ms y ≡ true
  others y other res = others-by r.assoc refl y other res

  -- whether another block is written stays as it was
  pub written-other : (y : ℕ) → eqb b y ≡ false → is_written r h' y ≡ is_written r h y
  unfolding is_written
  written-other y e = rw e refl

  written-here : w ≡ false → is_written r h' b ≡ true
      → (hits r ms x ≡ true) × (is_written r h b ≡ true)
  unfolding is_written
  written-here e g = and_parts (hits r ms x) (is_written r h b)
      (sym (ap (λ t. cond (t && uses r ms x) (w || (hits r ms x && is_written r h b))
      (is_written r h b)) (eq-eqb b b refl)
      ∙ ap (λ t. cond (true && (not t || r.walloc || hits r ms x))
      (t || (hits r ms x && is_written r h b)) (is_written r h b)) e) ∙ g)

  -- an access that does not write leaves its block dirty only if it was
  pub dirty-here : w ≡ false → is_dirty r h' b ≡ true → is_dirty r h b ≡ true
  dirty-here e d =
      let p = dirty-parts r h' b d in
      let k = written-here e p.2 in
      dirty-from r h b p.0 k.0 k.1

  abbrev after : List ℕ
  after = dirty_blocks r h'

  -- the dirty blocks, and before them that of the access if it is said to become dirty
  abbrev pub owing : Bool → List ℕ
  owing made = cond made (b ∷ dirty_blocks r h) (dirty_blocks r h)

  -- they have each block that was dirty
  pub inside : (made : Bool) (y : ℕ) → is_dirty r h y ≡ true → has (owing made) y ≡ true
  inside true y d = or_right (eqb b y) (has (dirty_blocks r h) y) (dirty-has r h y d)
  inside false y d = dirty-has r h y d

  inside-here : (made : Bool)
      → (made ≡ false → is_dirty r h' b ≡ true → is_dirty r h b ≡ true) → (y : ℕ)
      → eqb b y ≡ true → is_dirty r h' y ≡ true → has (owing made) y ≡ true
  inside-here true clean y e d = or_left (eqb b y) (has (dirty_blocks r h) y) e
  inside-here false clean y e d = let same : b ≡ y = eqb-true b y e in
      dirty-has r h y (subst (λ z. is_dirty r h z ≡ true) same
      (clean refl (subst (λ z. is_dirty r h' z ≡ true) (sym same) d)))

  -- and each that is dirty after the access, if its block becomes dirty only where that is said
  pub stays-inside : (made : Bool)
      → (made ≡ false → is_dirty r h' b ≡ true → is_dirty r h b ≡ true) → (y : ℕ)
      → is_dirty r h' y ≡ true → has (owing made) y ≡ true
  stays-inside made clean y d =
      let p = dirty-parts r h' y d in
      by_cases (eqb b y)
      (λ e. inside-here made clean y e d)
      (λ e. inside made y (dirty-from r h y p.0 (others y e p.1) (sym (written-other y e)
      ∙ p.2)))

  -- and so many more they are
  pub owing-length : (made : Bool) → length (owing made) ≡ length (dirty_blocks r h) + cond made 1 0
  owing-length true = omega arith
  owing-length false = omega arith

  written-inside : (y : ℕ) → has after y ≡ true → has (owing w) y ≡ true
  written-inside y g = stays-inside w dirty-here y (has-dirty r h' y g)

  kept : length after ≤ length (owing w)
  kept = as_many after (owing w) (dirty-once r h') written-inside

  -- the victim leaves
  pub victim-leaves : (v : ℕ) → victim r h x ≡ Some v → leaves r h x v ≡ true
  unfolding victim
  victim-leaves v e = find-passes (leaves r h x) ms v e

  -- a block that leaves is not dirty any more
  pub leaves-clean : (v : ℕ) → leaves r h x v ≡ true → has after v ≡ false
  leaves-clean v l = false_from_ne_true (has after v) (λ g.
      let gone = (and_parts (is_resident r ms v) (not (is_resident r (renewals r h') v)) l).1 in
      false≢true (sym (not-true (is_resident r (renewals r h') v) gone)
      ∙ (dirty-parts r h' v (has-dirty r h' v g)).1))

  backs-by : (o : Option ℕ) → victim r h x ≡ o
      → cond (is_some (dirty_victim r h o)) 1 0 + length after ≤ length (owing w)
  backs-by None e = let k = kept in omega arith
  backs-by (Some v) e = (elim (is_dirty r h v) as (λ t. is_dirty r h v ≡ t
      → cond (is_some (cond t (Some (v * r.bsize)) None)) 1 0 + length after ≤ length (owing w)) [
        | true ↦ λ d. let le = as_many (v ∷ after) (owing w)
            (leaves-clean v (victim-leaves v e), dirty-once r h') (λ z g.
            elim (or_cases (eqb v z) (has after z) g) [
              | inl q ↦ subst (λ k. has (owing w) k ≡ true) (eqb-true v z q) (inside w v d)
              | inr q ↦ written-inside z q
            ]) in omega arith
        | false ↦ λ d. let k = kept in omega arith
      ]) refl

  -- what is written back and what is dirty afterwards was dirty, or is of this write
  pub backs : cond (is_some (dirty_victim r h (victim r h x))) 1 0 + length after
      ≤ length (dirty_blocks r h) + cond w 1 0
  backs = let k = backs-by (victim r h x) refl in let owed = owing-length w in omega arith

  -- under write through nothing is dirty
  clean : r.wback ≡ false → (g : History) (v : ℕ) → is_dirty r g v ≡ true → ⊥
  clean e g v d = false≢true (sym e ∙ (dirty-parts r g v d).0)

  none-after : r.wback ≡ false → length after ≤ 0
  none-after e =
      as_many after [] (dirty-once r h') (λ z g. absurd (clean e h' z (has-dirty r h' z g)))

  none-back : r.wback ≡ false → (o : Option ℕ)
      → ◌≡◌ {A = ℕ} (cond (is_some (dirty_victim r h o)) 1 0) 0
  none-back e None = refl
  none-back e (Some v) = (elim (is_dirty r h v) as (λ t. is_dirty r h v ≡ t
      → ◌≡◌ {A = ℕ} (cond (is_some (cond t (Some (v * r.bsize)) None)) 1 0) 0) [
        | true ↦ λ d. absurd (clean e h v d)
        | false ↦ λ d. refl
      ]) refl

  -- a fetch and a write sent on
  sent : (wb used hit v : Bool) → cond (used && not hit) 1 0 + cond (v && (not wb || not used)) 1 0
      ≤ 1 + cond wb 0 (cond v 1 0)
  sent true true true true = omega arith
  sent true true true false = omega arith
  sent true true false true = omega arith
  sent true true false false = omega arith
  sent true false true true = omega arith
  sent true false true false = omega arith
  sent true false false true = omega arith
  sent true false false false = omega arith
  sent false true true true = omega arith
  sent false true true false = omega arith
  sent false true false true = omega arith
  sent false true false false = omega arith
  sent false false true true = omega arith
  sent false false true false = omega arith
  sent false false false true = omega arith
  sent false false false false = omega arith

  abbrev counted : ℕ
  counted = cond (is_some (dirty_victim r h (victim r h x))) 1 0
      + cond (uses r ms x && not (hits r ms x)) 1 0
      + cond (w && (not r.wback || not (uses r ms x))) 1 0

  pays-made : counted + length after ≤ length (dirty_blocks r h) + (1 + cond w 1 0)
  pays-made =
      let both = sent r.wback (uses r ms x) (hits r ms x) w in
      by_cases r.wback
      (λ e. let q : ◌≡◌ {A = ℕ} (cond r.wback 0 (cond w 1 0)) 0 =
      ap (λ t. cond t 0 (cond w 1 0)) e in let k = backs in omega arith)
      (λ e. let q : ◌≡◌ {A = ℕ} (cond r.wback 0 (cond w 1 0)) (cond w 1 0) =
      ap (λ t. cond t 0 (cond w 1 0)) e in let k = none-after e in let n =
      none-back e (victim r h x) in omega arith)

  pub pays : part_count (outcome_of r h x) + length after ≤ length (dirty_blocks r h)
      + (1 + cond w 1 0)
  unfolding outcome_of
  pays = pays-made
