-- A write makes its block dirty once, and the block is written back once or is dirty still.
use Rattle.std.proofs.Common.{◌≡◌, ℕ, ◌%◌, ◌<◌, Bool, true, false, cond, not, ◌&&◌, ◌||◌, eqb}
use Rattle.std.proofs.Common.{ltb, List, [], ◌∷◌, length, ◌⊎◌, inl, inr, refl, sym, ap, subst, ◌∙◌}
use Rattle.std.proofs.Common.{arith, ◌+◌, ◌*◌, Option, Some, None, is_some}
use Rattle.std.proofs.lemmas.Bool.{eqb-true, eq-eqb, false≢true, or_left, or_right, or_cases}
use Rattle.std.proofs.lemmas.Bool.{and_parts, and_from, not-true, lt-ltb}
use Rattle.std.proofs.lemmas.Bool.{false_from_ne_true}
use Rattle.std.specs.List.{find}
use Rattle.std.proofs.lemmas.Option.{none-some}
use Rattle.cache_core.specs.declared.access.Access.{Access}
use Rattle.cache_core.specs.History.{Rules, History, access, block_of, is_write, flush}
use Rattle.cache_core.specs.Residents.{before, distinct, in_set, hits, uses, renews, renewals}
use Rattle.cache_core.specs.Residents.{is_resident, reuse_distance, leaves, victim}
use Rattle.cache_core.specs.Dirty.{is_written, is_dirty, dirty_blocks}
use Rattle.cache_core.specs.Parts.{dirty_victim, outcome_of, one_if}
use Rattle.cache_core.specs.Counts.{tally, flushed_back, counts_of}
use Rattle.cache_core.proofs.Reuse.{has}
use Rattle.cache_core.proofs.Shift.{IsOnce}
use Rattle.cache_core.proofs.Turns.{renewals-yes, renewals-no, block-fifo, block-lru}
use Rattle.cache_core.proofs.Cases.{by_cases}
use Rattle.cache_core.proofs.Victim.{resident-renewed, only-one}
use Rattle.cache_core.proofs.Owed.{dirty-from, dirty-has, dirty-here, dirty-once, dirty-parts}
use Rattle.cache_core.proofs.EarlierWrites.{flushes_leave_none_dirty}
use Rattle.cache_core.proofs.Owed.{has-dirty, inside, leaves-clean, owing}
use Rattle.cache_core.proofs.Owed.{owing-length, stays-inside, victim-leaves, written-other}
use Rattle.grid_core.specs.WriteBacks.{is_first_write, WriteBacksAreFirstWrites}
use Rattle.grid_core.proofs.Onces.{once-length}

found-by : (p : ℕ → Bool) (x : ℕ) (xs : List ℕ) (t : Bool) → p x ≡ t
    → find p (x ∷ xs) ≡ cond t (Some x) (find p xs)
found-by p x xs t q = ap (λ u. cond u (Some x) (find p xs)) q

-- where it finds nothing, no member passes
find-fails : (p : ℕ → Bool) (xs : List ℕ) (y : ℕ) → find p xs ≡ None → has xs y ≡ true
    → p y ≡ true → ⊥
find-fails p [] y e there passes = false≢true there
find-fails p (x ∷ xs) y e there passes = by_cases (p x)
    (λ q. none-some x (sym e ∙ found-by p x xs true q))
    (λ q. elim (or_cases (eqb x y) (has xs y) there) [
      | inl s ↦ false≢true (sym q ∙ subst (λ z. p z ≡ true) (sym (eqb-true x y s)) passes)
      | inr t ↦ find-fails p xs y (sym (found-by p x xs false q) ∙ e) t passes
    ])

module _ (r : Rules) (allocates : r.walloc ≡ true) (back : r.wback ≡ true) (some : 0 < r.assoc)
    (h : History) (x : Access) where
  abbrev b : ℕ
  b = block_of r x

  abbrev after : History
  after = access x ∷ h

  used : uses r (renewals r h) x ≡ true
  used = or_left (not (is_write x) || r.walloc) (hits r (renewals r h) x)
      (or_right (not (is_write x)) r.walloc allocates)

  nothing-later : before b (in_set r (b % r.sets) (b ∷ renewals r h)) ≡ []
  nothing-later = rw (eq-eqb (b % r.sets) (b % r.sets) refl, eq-eqb b b refl) refl

  near : (fifo : Bool) (later : List ℕ) → later ≡ []
      → ltb (length (cond fifo later (distinct later))) r.assoc ≡ true
  near true later none = ap (λ l. ltb (length l) r.assoc) none ∙ lt-ltb 0 r.assoc some
  near false later none = ap (λ l. ltb (length (distinct l)) r.assoc) none
      ∙ lt-ltb 0 r.assoc some

  resident-first : is_resident r (b ∷ renewals r h) b ≡ true
  unfolding is_resident reuse_distance
  resident-first = and_from (has (b ∷ renewals r h) b) _
      (or_left (eqb b b) (has (renewals r h) b) (eq-eqb b b refl))
      (near r.fifo (before b (in_set r (b % r.sets) (b ∷ renewals r h))) nothing-later)

  renewed : hits r (renewals r h) x ≡ false → renews r (renewals r h) x ≡ true
  renewed miss = by_cases r.fifo
      (λ f. block-fifo r (renewals r h) x true f
      (and_from (uses r (renewals r h) x) (not (hits r (renewals r h) x)) used (ap not miss)))
      (λ f. block-lru r (renewals r h) x true f used)

  -- after an access its block is resident
  resident-here : is_resident r (renewals r after) b ≡ true
  resident-here = by_cases (renews r (renewals r h) x)
      (λ yes. ap (λ l. is_resident r l b) (renewals-yes r h x yes) ∙ resident-first)
      (λ no. ap (λ l. is_resident r l b) (renewals-no r h x no)
      ∙ by_cases (hits r (renewals r h) x)
      (λ hit. hit)
      (λ miss. absurd (false≢true (sym no ∙ renewed miss))))

  written-here : is_written r after b
      ≡ (is_write x || (hits r (renewals r h) x && is_written r h b))
  unfolding is_written
  written-here = ap (λ t. cond t (is_write x || (hits r (renewals r h) x && is_written r h b))
      (is_written r h b)) (and_from (eqb b b) (uses r (renewals r h) x) (eq-eqb b b refl) used)

  -- after an access its block is dirty if it writes, or if the block was dirty before
  here-dirty : (is_write x || is_dirty r h b) ≡ true → is_dirty r after b ≡ true
  here-dirty e = dirty-from r after b back resident-here (written-here
      ∙ elim (or_cases (is_write x) (is_dirty r h b) e) [
        | inl w ↦ or_left (is_write x) (hits r (renewals r h) x && is_written r h b) w
        | inr d ↦ let p = dirty-parts r h b d in
            or_right (is_write x) (hits r (renewals r h) x && is_written r h b)
            (and_from (hits r (renewals r h) x) (is_written r h b) p.1 p.2)
      ])

  -- a block that was dirty is dirty still, or leaves
  dirty-still : (y : ℕ) → is_dirty r h y ≡ true
      → (is_dirty r after y ≡ true) ⊎ ((is_dirty r h y ≡ true) × (leaves r h x y ≡ true))
  dirty-still y d = by_cases (eqb b y)
      (λ e. let same : b ≡ y = eqb-true b y e in
      inl (subst (λ z. is_dirty r after z ≡ true) same (here-dirty (or_right (is_write x)
      (is_dirty r h b) (subst (λ z. is_dirty r h z ≡ true) (sym same) d)))))
      (λ e. let p = dirty-parts r h y d in
      by_cases (is_resident r (renewals r after) y)
      (λ stays. inl (dirty-from r after y back stays (written-other r h x y e ∙ p.2)))
      (λ gone. inr (
        d,
        and_from (is_resident r (renewals r h) y) (not (is_resident r (renewals r after) y)) p.1
            (ap not gone),
      )))

  abbrev dirty : List ℕ
  dirty = dirty_blocks r h

  abbrev left : List ℕ
  left = dirty_blocks r after

  abbrev first : Bool
  first = is_first_write r h x

  -- the dirty blocks, and the one that a first write makes dirty
  abbrev owed : List ℕ
  owed = owing r h x first

  -- without a first write, the block of the access becomes dirty only if it was
  not-first : first ≡ false → is_dirty r after b ≡ true → is_dirty r h b ≡ true
  not-first e d = by_cases (is_dirty r h b)
      (λ was. was)
      (λ clean. by_cases (is_write x)
      (λ w. absurd (false≢true (sym e ∙ and_from (is_write x) (not (is_dirty r h b)) w
      (ap not clean))))
      (λ w. dirty-here r h x w d))

  -- each block that is dirty after the access is one of them
  after-owed : (y : ℕ) → is_dirty r after y ≡ true → has owed y ≡ true
  after-owed y d = stays-inside r h x first not-first y d

  -- each of them is dirty then, or was dirty and leaves
  owed-still : (y : ℕ) → has owed y ≡ true
      → (is_dirty r after y ≡ true) ⊎ ((is_dirty r h y ≡ true) × (leaves r h x y ≡ true))
  owed-still y g = (elim first as (λ t. first ≡ t
      → has (cond t (b ∷ dirty) dirty) y ≡ true
      → (is_dirty r after y ≡ true) ⊎ ((is_dirty r h y ≡ true) × (leaves r h x y ≡ true))) [
        | true ↦ λ e g. elim (or_cases (eqb b y) (has dirty y) g) [
          | inl s ↦ inl (subst (λ z. is_dirty r after z ≡ true) (eqb-true b y s)
              (here-dirty (or_left (is_write x) (is_dirty r h b)
              (and_parts (is_write x) (not (is_dirty r h b)) e).0)))
          | inr t ↦ dirty-still y (has-dirty r h y t)
        ]
        | false ↦ λ e g. dirty-still y (has-dirty r h y g)
      ]) refl g

  owed-once : IsOnce owed
  owed-once = (elim first as (λ t. first ≡ t → IsOnce (cond t (b ∷ dirty) dirty)) [
    | true ↦ λ e. (
      false_from_ne_true (has dirty b) (λ q. false≢true
          (sym (not-true (is_dirty r h b) (and_parts (is_write x) (not (is_dirty r h b)) e).1)
          ∙ has-dirty r h b q)),
      dirty-once r h,
    )
    | false ↦ λ e. dirty-once r h
  ]) refl

  none-leaves : victim r h x ≡ None → (y : ℕ) → leaves r h x y ≡ true → ⊥
  unfolding victim
  none-leaves e y l = find-fails (leaves r h x) (renewals r h) y e
      (resident-renewed r (renewals r h) y (and_parts (is_resident r (renewals r h) y) _ l).0) l

  -- where no dirty block leaves
  none-lost : ((y : ℕ) → is_dirty r h y ≡ true → leaves r h x y ≡ true → ⊥)
      → length left ≡ length owed
  none-lost none = once-length left owed (dirty-once r after) owed-once
      (λ y g. after-owed y (has-dirty r after y g))
      (λ y g. elim (owed-still y g) [
        | inl d ↦ dirty-has r after y d
        | inr l ↦ absurd (none y l.0 l.1)
      ])

  -- where a dirty block leaves
  one-lost : (v : ℕ) → is_dirty r h v ≡ true → leaves r h x v ≡ true
      → length (v ∷ left) ≡ length owed
  one-lost v d l = once-length (v ∷ left) owed (leaves-clean r h x v l, dirty-once r after)
      owed-once
      (λ y g. elim (or_cases (eqb v y) (has left y) g) [
        | inl s ↦ subst (λ z. has owed z ≡ true) (eqb-true v y s) (inside r h x first v d)
        | inr t ↦ after-owed y (has-dirty r after y t)
      ])
      (λ y g. elim (owed-still y g) [
        | inl t ↦ or_right (eqb v y) (has left y) (dirty-has r after y t)
        | inr k ↦ or_left (eqb v y) (has left y) (eq-eqb v y (only-one r h x v y l k.1))
      ])

  backs-by : (o : Option ℕ) → victim r h x ≡ o
      → cond (is_some (dirty_victim r h o)) 1 0 + length left ≡ length owed
  backs-by None e = let k = none-lost (λ y d l. none-leaves e y l) in omega arith
  backs-by (Some v) e = (elim (is_dirty r h v) as (λ t. is_dirty r h v ≡ t
      → cond (is_some (cond t (Some (v * r.bsize)) None)) 1 0 + length left ≡ length owed) [
        | true ↦ λ d. let k = one-lost v d (victim-leaves r h x v e) in omega arith
        | false ↦ λ clean. let k = none-lost (λ y d l. false≢true (sym clean
            ∙ subst (λ z. is_dirty r h z ≡ true)
            (sym (only-one r h x v y (victim-leaves r h x v e) l)) d)) in
            omega arith
      ]) refl

  -- what an access writes back and leaves dirty is what was dirty, and one more at a first write
  backs-step : one_if (is_some (outcome_of r h x).back) + length left
      ≡ length dirty + one_if first
  unfolding outcome_of
  backs-step = let k = backs-by (victim r h x) refl in let o = owing-length r h x first in
      omega arith

module _ (r : Rules) (allocates : r.walloc ≡ true) (back : r.wback ≡ true)
    (some : 0 < r.assoc) where
  none-dirty : dirty_blocks r [] ≡ []
  unfolding dirty_blocks renewals
  none-dirty = refl

  -- what was written back so far, and what is dirty now
  backs-are : (h : History) → tally (λ g x. is_some (outcome_of r g x).back) h + flushed_back r h
      + length (dirty_blocks r h) ≡ tally (is_first_write r) h
  unfolding tally flushed_back
  backs-are [] = let none = ap length none-dirty in omega arith
  backs-are (flush ∷ h) =
      let before = backs-are h in
      let none = ap length (flushes_leave_none_dirty r h) in
      omega arith
  backs-are (access x ∷ h) =
      let before = backs-are h in
      let step = backs-step r allocates back some h x in
      omega arith

-- what was written back and what is dirty now are as many blocks as first writes
pub backs-are-first-writes : WriteBacksAreFirstWrites
unfolding counts_of
backs-are-first-writes r allocates back some h = backs-are r allocates back some h
