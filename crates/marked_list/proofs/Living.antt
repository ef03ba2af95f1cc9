-- The uses that are the last ones of their blocks.
use Rattle.std.proofs.Common.{◌≡◌, ◌≢◌, ℕ, zero, suc, ◌<◌, Bool, true, false, cond, not, eqb, ltb}
use Rattle.std.proofs.Common.{List, [], ◌∷◌, ◌++◌, take, length, reverse, get_or, set}
use Rattle.std.proofs.Common.{Option, Some, None, refl, sym, ap, subst, ◌∙◌, arith}
use Rattle.std.proofs.Common.{get_or-set_same, get_or-set_other}
use Rattle.std.proofs.lemmas.Bool.{eqb-true, eqb-false, eq-eqb, ltb-true, ltb-false, false≢true}
use Rattle.std.proofs.lemmas.List.{length-map, length-reverse, length-set, map-append, ext_get_or}
use Rattle.std.proofs.lemmas.List.{get_or-map, get_or_at, get_or_append_left, reverse-reverse}
use Rattle.std.proofs.lemmas.List.{set-append_left, take_all}
use Rattle.std.proofs.lemmas.Option.{none-some, same_Some}
use Rattle.cache_core.specs.Residents.{distinct}
use Rattle.cache_core.proofs.Cases.{by_cases}
use Rattle.cache_core.proofs.Nothing.{take_none}
use Rattle.cache_core.proofs.Reuse.{has, has-filter}
use Rattle.cache_core.proofs.Shift.{IsOnce, IsOnce-distinct, IsOnce-filter, has-filter_not, without}
use Rattle.cache_core.proofs.Shift.{without-absent}
use Rattle.marked_list.specs.Uses.{last_in, dead, living, buried, with_dead, used_next}
use Rattle.marked_list.proofs.LastUse.{last-there, last-same, last-other, has-last, has-there}
use Rattle.marked_list.proofs.LastUse.{reverse-cons, reverse-push}

pub differs : (b : ℕ) → b ≢ dead → eqb b dead ≡ false
differs b ne = by_cases (eqb b dead) (λ e. absurd (ne (eqb-true b dead e))) (λ e. e)

-- a use that is not dead is one of the last uses, in front of those before it
pub living-first : (b : ℕ) (ms : List ℕ) → b ≢ dead → living (b ∷ ms) ≡ b ∷ living ms
living-first b ms ne = ap (λ t. cond (not t) (b ∷ living ms) (living ms)) (differs b ne)

-- a block was used last somewhere if it was used
pub has-living : (ms : List ℕ) (b : ℕ) → b ≢ dead → has (living ms) b ≡ has ms b
has-living ms b ne = has-filter (λ m. not (eqb m dead)) b (ap not (differs b ne)) ms

pub length-buried : (b : ℕ) (ms : List ℕ) → length (buried b ms) ≡ length ms
length-buried b ms = length-map ms (λ m. cond (eqb m b) dead m)

-- the last uses once those of a block are dead
pub living-buried : (b : ℕ) (ms : List ℕ) → living (buried b ms) ≡ without b (living ms)
living-buried b [] = refl
living-buried b (m ∷ ms) = by_cases (eqb m b)
    (λ e. by_cases (eqb m dead)
    (λ d. rw (e, d) (living-buried b ms))
    (λ d. rw (e, d, e) (living-buried b ms)))
    (λ e. by_cases (eqb m dead)
    (λ d. rw (e, d) (living-buried b ms))
    (λ d. rw (e, d, e) (ap (λ l. m ∷ l) (living-buried b ms))))

-- and after one more use of it
pub living-next : (b : ℕ) (ms : List ℕ) → b ≢ dead
    → living (used_next b ms) ≡ b ∷ without b (living ms)
living-next b ms ne = living-first b (buried b ms) ne ∙ ap (λ l. b ∷ l) (living-buried b ms)

-- the last use of another block stays
pub last-buried : (b q : ℕ) (ms : List ℕ) → eqb b q ≡ false → q ≢ dead
    → last_in (buried b ms) q ≡ last_in ms q
last-buried b q [] ne low = refl
last-buried b q (m ∷ ms) ne low = by_cases (eqb m b)
    (λ e. let other : eqb m q ≡ false = subst (λ z. eqb z q ≡ false) (sym (eqb-true m b e)) ne in
    let not-dead : eqb dead q ≡ false = by_cases (eqb dead q)
    (λ d. absurd (low (sym (eqb-true dead q d)))) (λ d. d) in
    rw (e, not-dead, other) (last-buried b q ms ne low))
    (λ e. by_cases (eqb m q)
    (λ f. rw (e, f) (ap Some (length-buried b ms)))
    (λ f. rw (e, f) (last-buried b q ms ne low)))

-- a block whose last use is living stands there alone
pub only-there : (ms : List ℕ) → IsOnce (living ms) → (b p i : ℕ) → b ≢ dead
    → last_in ms b ≡ Some p → i < length ms → get_or (reverse ms) i 0 ≡ b → i ≡ p
only-there [] once b p i ne last lt is = absurd (omega arith)
only-there (m ∷ ms) once b p i ne last lt is = by_cases (eqb m b)
    (λ e. let at : length ms ≡ p = same_Some (length ms) p (sym (last-same m b ms e) ∙ last) in
    by_cases (ltb i (length ms))
    (λ f. let below = ltb-true i (length ms) f in
    absurd (false≢true (sym (alone e) ∙ has-living ms b ne
    ∙ subst (λ z. has ms z ≡ true) (sym (stands below) ∙ is) (used below))))
    (λ f. let past = ltb-false i (length ms) f in omega arith))
    (λ e. by_cases (ltb i (length ms))
    (λ f. let below = ltb-true i (length ms) f in
    only-there ms rest b p i ne (sym (last-other m b ms e) ∙ last) below (sym (stands below) ∙ is))
    (λ f. let past = ltb-false i (length ms) f in
    let end : i ≡ length ms = omega arith in
    absurd (eqb-false m b e (sym (ap (λ l. get_or l i 0) (reverse-cons m ms)
    ∙ get_or_at (reverse ms) m [] 0 i (length-reverse ms ∙ sym end)) ∙ is))))
  where
    stands : i < length ms → get_or (reverse (m ∷ ms)) i 0 ≡ get_or (reverse ms) i 0
    stands below = ap (λ l. get_or l i 0) (reverse-cons m ms)
        ∙ get_or_append_left (reverse ms) (m ∷ []) 0 i (omega (arith, below, length-reverse ms))

    used : i < length ms → has ms (get_or (reverse ms) i 0) ≡ true
    used below = subst (λ l. has l (get_or (reverse ms) i 0) ≡ true) (reverse-reverse ms)
        (has-there (reverse ms) i (omega (arith, below, length-reverse ms)))

    unless-dead : m ≢ dead → has (living ms) m ≡ false
    unless-dead low = (subst IsOnce (living-first m ms low) once).0

    alone : eqb m b ≡ true → has (living ms) b ≡ false
    alone e = subst (λ z. has (living ms) z ≡ false) (eqb-true m b e)
        (unless-dead (subst (λ z. z ≢ dead) (sym (eqb-true m b e)) ne))

    rest : IsOnce (living ms)
    rest = by_cases (eqb m dead)
        (λ d. subst IsOnce (ap (λ t. cond (not t) (m ∷ living ms) (living ms)) d) once)
        (λ d. (subst IsOnce (living-first m ms (λ g. eqb-false m dead d g)) once).1)

buried-absent : (b : ℕ) (ms : List ℕ) → has ms b ≡ false → buried b ms ≡ ms
buried-absent b [] h = refl
buried-absent b (m ∷ ms) h = by_cases (eqb m b)
    (λ e. absurd (false≢true (sym h ∙ rw e refl)))
    (λ e. rw e (ap (λ l. m ∷ l) (buried-absent b ms (sym (rw e refl) ∙ h))))

reverse-buried : (b : ℕ) (log : List ℕ) → reverse (buried b log) ≡ buried b (reverse log)
reverse-buried b [] = refl
reverse-buried b (x ∷ log) = let one = λ (m : ℕ). cond (eqb m b) dead m in
    reverse-cons (one x) (buried b log)
    ∙ ap (λ l. l ++ one x ∷ []) (reverse-buried b log)
    ∙ sym (map-append one (reverse log) (x ∷ [])) ∙ sym (ap (buried b) (reverse-cons x log))

module _ (log : List ℕ) (once : IsOnce (living (reverse log))) (b p : ℕ) (low : b ≢ dead)
    (last : last_in (reverse log) b ≡ Some p) where
  pub inside : p < length log
  inside = omega (arith, (last-there (reverse log) b p last).0, length-reverse log)

  stands : get_or log p 0 ≡ b
  stands = sym (ap (λ l. get_or l p 0) (reverse-reverse log))
      ∙ (last-there (reverse log) b p last).1

  abbrev one : ℕ → ℕ
  one m = cond (eqb m b) dead m

  same : (i : ℕ) → i < length log → get_or (set log p dead) i 0 ≡ get_or (buried b log) i 0
  same i lt = by_cases (eqb i p)
      (λ e. ap (λ k. get_or (set log p dead) k 0) (eqb-true i p e)
      ∙ get_or-set_same log p dead 0 inside
      ∙ sym (get_or-map one log i 0 0 lt
      ∙ ap one (ap (λ k. get_or log k 0) (eqb-true i p e) ∙ stands)
      ∙ ap (λ t. cond t dead b) (eq-eqb b b refl)))
      (λ e. let ne : i ≢ p = λ g. eqb-false i p e g in
      get_or-set_other log p i dead 0 ne
      ∙ sym (get_or-map one log i 0 0 lt
      ∙ ap (λ t. cond t dead (get_or log i 0)) (not-it i lt ne)))
    where
      not-it : (k : ℕ) → k < length log → k ≢ p → eqb (get_or log k 0) b ≡ false
      not-it k below ne = by_cases (eqb (get_or log k 0) b)
          (λ e. absurd (ne (only-there (reverse log) once b p k low last
          (omega (arith, below, length-reverse log))
          (ap (λ l. get_or l k 0) (reverse-reverse log) ∙ eqb-true (get_or log k 0) b e))))
          (λ e. e)

  -- to bury the last use of a block is to bury the block
  pub set-buried : set log p dead ≡ buried b log
  set-buried = ext_get_or 0 (set log p dead) (buried b log)
      (length-set log p dead ∙ sym (length-buried b log))
      (λ i lt. same i (omega (arith, lt, length-set log p dead)))

-- the log after one more use of a block
pub log-next : (log : List ℕ) (b : ℕ) → IsOnce (living (reverse log)) → b ≢ dead
    → (last : Option ℕ) → last_in (reverse log) b ≡ last
    → reverse (with_dead (log ++ b ∷ []) last) ≡ used_next b (reverse log)
log-next log b once low None none = reverse-push log b
    ∙ ap (λ l. b ∷ l) (sym (buried-absent b (reverse log) (unused (has (reverse log) b) refl)))
  where
    unused : (t : Bool) → has (reverse log) b ≡ t → has (reverse log) b ≡ false
    unused false h = h
    unused true h = let u = has-last (reverse log) b h in
        absurd (none-some u.0 (sym none ∙ u.1))
log-next log b once low (Some p) is =
    ap (λ (l : List ℕ). reverse l) (set-append_left log (b ∷ []) p dead (inside log once b p low is)
    ∙ ap (λ l. l ++ b ∷ []) (set-buried log once b p low is))
    ∙ reverse-push (buried b log) b ∙ ap (λ l. b ∷ l) (reverse-buried b log)

-- a list with no repetitions stays as it is
pub distinct-once : (ys : List ℕ) → IsOnce ys → distinct ys ≡ ys
distinct-once [] o = refl
distinct-once (y ∷ ys) o = ap (λ l. y ∷ without y l) (distinct-once ys o.1)
    ∙ ap (λ l. y ∷ l) (without-absent ys y o.0)

-- no block is twice among the last uses
pub once-is : (ms : List ℕ) → distinct (living ms) ≡ living ms → IsOnce (living ms)
once-is ms e = subst IsOnce e (IsOnce-distinct (living ms))

pub once-next : (b : ℕ) (ms : List ℕ) → b ≢ dead → distinct (living ms) ≡ living ms
    → distinct (living (used_next b ms)) ≡ living (used_next b ms)
once-next b ms low e = ap distinct (living-next b ms low)
    ∙ distinct-once (b ∷ without b (living ms)) (
      has-filter_not (λ n. not (eqb n b)) b (ap not (eq-eqb b b refl)) (living ms),
      IsOnce-filter (λ n. not (eqb n b)) (living ms) (once-is ms e),
    )
    ∙ sym (living-next b ms low)

-- what is left of the last uses is the last uses
pub living-take : (n : ℕ) (ms : List ℕ) → living (take n (living ms)) ≡ take n (living ms)
living-take n [] = ap living (take_none n) ∙ sym (take_none n)
living-take zero (m ∷ ms) = refl
living-take (suc n) (m ∷ ms) = by_cases (eqb m dead)
    (λ d. rw d (living-take (suc n) ms))
    (λ d. rw (d, d) (ap (λ l. m ∷ l) (living-take n ms)))

pub living-twice : (ms : List ℕ) → living (living ms) ≡ living ms
living-twice ms = sym (ap living (take_all (length (living ms)) (living ms) (omega arith)))
    ∙ living-take (length (living ms)) ms
    ∙ take_all (length (living ms)) (living ms) (omega arith)
