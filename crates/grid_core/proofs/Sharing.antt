-- What all caches that are served together count alike, and with it all counts of each.
use Rattle.std.proofs.Common.{◌≡◌, ℕ, ◌+◌, ◌/◌, Bool, true, false, not, ◌&&◌, ◌||◌, ◌==◌, [], ◌∷◌}
use Rattle.std.proofs.Common.{refl}
use Rattle.std.proofs.Common.{sym, ap, ◌∙◌, arith}
use Rattle.std.proofs.Math.Bool.{or-false, and-false}
use Rattle.std.specs.List.{list_any}
use Rattle.cache_core.specs.declared.access.Access.{Access}
use Rattle.cache_core.specs.declared.counts.Counts.{Counts}
use Rattle.cache_core.specs.declared.counts.PerClass.{PerClass}
use Rattle.cache_core.specs.declared.geometry.Geometry.{Geometry}
use Rattle.cache_core.specs.Geometry.{bsize_of}
use Rattle.cache_core.specs.History.{History, Rules, access, block_of, flush, is_write}
use Rattle.cache_core.specs.Kinds.{referenced_blocks}
use Rattle.cache_core.specs.Residents.{renewals}
use Rattle.cache_core.specs.Counting.{with_one}
use Rattle.cache_core.specs.Counts.{by_class, counts_of, flushes_in, none_by_class, tally, total_of}
use Rattle.cache_core.specs.Parts.{one_if, outcome_of}
use Rattle.grid_core.specs.declared.cells.Alike.{Alike}
use Rattle.grid_core.specs.declared.cells.Shape.{Shape}
use Rattle.grid_core.specs.Cells.{sent_on_of, shape_rules}
use Rattle.grid_core.specs.State.{IsAlike, base_rules, whole_counts}
use Rattle.grid_core.specs.Totals.{added, lessened}
use Rattle.grid_core.specs.Ways.{IsStacked}
use Rattle.grid_core.proofs.After.{referenced-size}
use Rattle.grid_core.proofs.Distances.{uses-all}
use Rattle.grid_core.proofs.Hitting.{with-none}
use Rattle.grid_core.proofs.MissParts.{by-class-same, far-are, firsts-are, hit, known, less-first}
use Rattle.grid_core.proofs.MissParts.{loads-are, missed-are, misses-are, near}

-- every access is fetched
abbrev pub fetched : History → PerClass
fetched h = by_class (λ g x. true) h

-- at the start
pub alike-start : (g : Geometry) (a : Alike) → a.fetches ≡ none_by_class → a.firsts ≡ none_by_class
    → a.flushes ≡ 0 → IsAlike g [] a
unfolding flushes_in tally
alike-start g a f k n = record { fetches = f; firsts = k; flushes = n }

-- after an access
pub alike-access : (g : Geometry) (h : History) (x : Access) (a b : Alike) (was : Bool)
    → IsAlike g h a → was ≡ known (base_rules g) h x → b.fetches ≡ with_one x true a.fetches
    → b.firsts ≡ with_one x (not was) a.firsts → b.flushes ≡ a.flushes
    → IsAlike g (access x ∷ h) b
unfolding flushes_in tally
alike-access g h x a b was is known' f k n = record {
  fetches = f ∙ ap (with_one x true) is.fetches;
  firsts = k ∙ ap (λ t. with_one x (not t) a.firsts) known'
      ∙ ap (with_one x (not (known (base_rules g) h x))) is.firsts;
  flushes = n ∙ is.flushes;
}

-- after one more access to a known block
pub alike-again : (g : Geometry) (h : History) (x : Access) (a b : Alike) → IsAlike g h a
    → known (base_rules g) h x ≡ true → b.fetches ≡ with_one x true a.fetches
    → b.firsts ≡ a.firsts → b.flushes ≡ a.flushes → IsAlike g (access x ∷ h) b
alike-again g h x a b is known' f k n =
    alike-access g h x a b true is (sym known') f (k ∙ sym (with-none x a.firsts)) n

-- after a flush
pub alike-flush : (g : Geometry) (h : History) (a b : Alike) → IsAlike g h a
    → b.fetches ≡ a.fetches → b.firsts ≡ a.firsts → b.flushes ≡ a.flushes + 1
    → IsAlike g (flush ∷ h) b
unfolding flushes_in tally
alike-flush g h a b is f k n = record {
  fetches = f ∙ is.fetches;
  firsts = k ∙ is.firsts;
  flushes = (let m = is.flushes in omega arith);
}

module _ (r : Rules) (st : IsStacked r) where
  through-is : (h : History) (x : Access)
      → (outcome_of r h x).through ≡ (is_write x && not r.wback)
  unfolding outcome_of
  through-is h x = ap (λ t. is_write x && (not r.wback || not t)) (uses-all r st (renewals r h) x)
      ∙ ap (λ t. is_write x && t) (or-false (not r.wback))

  abbrev sent : History → ℕ
  sent h = tally (λ g x. (outcome_of r g x).through) h

  abbrev written : History → ℕ
  written h = tally (λ g x. is_write x && true) h

  none-sent : r.wback ≡ true → (h : History) → 0 ≡ sent h
  unfolding tally
  none-sent back [] = refl
  none-sent back (flush ∷ h) = none-sent back h
  none-sent back (access x ∷ h) =
      let rest = none-sent back h in
      let one : one_if (outcome_of r h x).through ≡ 0 = ap one_if (through-is h x
      ∙ ap (λ w. is_write x && not w) back ∙ and-false (is_write x)) in
      omega arith

  all-sent : r.wback ≡ false → (h : History) → written h ≡ sent h
  unfolding tally
  all-sent through [] = refl
  all-sent through (flush ∷ h) = all-sent through h
  all-sent through (access x ∷ h) =
      ap (λ t. one_if t + written h)
      (sym (through-is h x ∙ ap (λ w. is_write x && not w) through))
      ∙ ap (λ n. one_if (outcome_of r h x).through + n) (all-sent through h)

  -- all writes are sent on, or none
  sent-is : (h : History) → sent_on_of r.wback (fetched h).write ≡ sent h
  sent-is h = (elim r.wback as (λ w. r.wback ≡ w → sent_on_of w (fetched h).write ≡ sent h) [
    | true ↦ λ back. none-sent back h
    | false ↦ λ through. all-sent through h
  ]) refl

-- counts by their parts
abbrev parts : PerClass → PerClass → PerClass → PerClass → PerClass → ℕ → ℕ → ℕ → ℕ → Counts
parts f m a b d l w s n = record {
  fetches = f;
  misses = m;
  compulsory = a;
  capacity = b;
  conflict = d;
  loaded = l;
  written_back = w;
  sent_on = s;
  flushes = n;
}

same-counts : (c : Counts) (f m a b d : PerClass) (l w s n : ℕ) → f ≡ c.fetches → m ≡ c.misses
    → a ≡ c.compulsory → b ≡ c.capacity → d ≡ c.conflict → l ≡ c.loaded → w ≡ c.written_back
    → s ≡ c.sent_on → n ≡ c.flushes → parts f m a b d l w s n ≡ c
same-counts c f m a b d l w s n ef em ea eb ed el ew es en =
    ap (λ z. parts z m a b d l w s n) ef ∙ ap (λ z. parts c.fetches z a b d l w s n) em
    ∙ ap (λ z. parts c.fetches c.misses z b d l w s n) ea
    ∙ ap (λ z. parts c.fetches c.misses c.compulsory z d l w s n) eb
    ∙ ap (λ z. parts c.fetches c.misses c.compulsory c.capacity z l w s n) ed
    ∙ ap (λ z. parts c.fetches c.misses c.compulsory c.capacity c.conflict z w s n) el
    ∙ ap (λ z. parts c.fetches c.misses c.compulsory c.capacity c.conflict c.loaded z s n) ew
    ∙ ap (λ z. parts c.fetches c.misses c.compulsory c.capacity c.conflict c.loaded c.written_back
    z n) es
    ∙ ap (λ z. parts c.fetches c.misses c.compulsory c.capacity c.conflict c.loaded c.written_back
    c.sent_on z) en

-- first accesses are the same in all caches of one block size
firsts-size : (q r : Rules) → q.bsize ≡ r.bsize → (h : History)
    → by_class (λ g x. not (known q g x)) h ≡ by_class (λ g x. not (known r g x)) h
firsts-size q r same h = by-class-same (λ g x. not (known q g x)) (λ g x. not (known r g x))
    (λ g x. ap (λ l. not (list_any (λ b. b == block_of q x) l)) (referenced-size q r same g)
    ∙ ap (λ n. not (list_any (λ b. b == x.addr / n) (referenced_blocks r g))) same) h

-- so the cache of a shape has all its counts
pub whole-is : (g : Geometry) (h : History) (a : Alike) → IsAlike g h a → (s : Shape)
    → bsize_of s.geometry ≡ bsize_of g → (misses far : PerClass) (backs : ℕ)
    → misses ≡ by_class (λ e x. not (hit (shape_rules s) e x)) h
    → far ≡ by_class (λ e x. not (hit (shape_rules s) e x) && not (near (shape_rules s) e x)) h
    → backs ≡ (counts_of (shape_rules s) h).written_back
    → whole_counts a misses far backs s.wback ≡ counts_of (shape_rules s) h
unfolding counts_of
whole-is g h a is s same misses far backs em ef eb =
    let r = shape_rules s in
    let st : IsStacked r = record { lru = refl; allocates = refl } in
    let first : a.firsts ≡ by_class (λ e x. not (known r e x)) h =
    is.firsts ∙ firsts-size (base_rules g) r (sym same) h in
    let missed = em ∙ missed-are r h in
    same-counts (counts_of r h) a.fetches misses a.firsts (lessened far a.firsts)
    (lessened misses far) (total_of misses) backs (sent_on_of s.wback a.fetches.write) a.flushes
    is.fetches
    missed
    (first ∙ firsts-are r h)
    (ap (λ p. lessened p a.firsts) (ef ∙ far-are r h)
    ∙ ap (λ p. lessened (added (by_class (λ e x. not (known r e x)) h) (counts_of r h).capacity) p)
    first
    ∙ less-first (by_class (λ e x. not (known r e x)) h) (counts_of r h).capacity)
    (ap (λ p. lessened p far) (em ∙ misses-are r h)
    ∙ ap (λ p. lessened (added (by_class (λ e x. not (hit r e x) && not (near r e x)) h)
    (counts_of r h).conflict) p) ef
    ∙ less-first (by_class (λ e x. not (hit r e x) && not (near r e x)) h)
    (counts_of r h).conflict)
    (ap total_of missed ∙ loads-are r st h)
    eb
    (ap (λ (p : PerClass). sent_on_of s.wback p.write) is.fetches ∙ sent-is r st h)
    is.flushes
