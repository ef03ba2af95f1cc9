-- All counts of a cache, by what its rows have counted.
use Rattle.std.proofs.Common.{◌≡◌, ℕ, ◌+◌, ◌<◌, Bool, true, false, not, ◌&&◌, ltb, List}
use Rattle.std.proofs.Common.{length, get_or, refl, sym, ap, ◌∙◌, arith}
use Rattle.std.specs.List.Sorted.{IsStrictlyIncreasing}
use Rattle.std.proofs.lemmas.Bool.Decides.{nat_tests}
use Rattle.std.proofs.lemmas.List.{get_or-map}
use Rattle.cache_core.specs.declared.access.Access.{Access}
use Rattle.cache_core.specs.declared.geometry.Geometry.{Geometry}
use Rattle.cache_core.specs.Geometry.{bsize_of}
use Rattle.cache_core.specs.History.{History, Rules, block_of}
use Rattle.cache_core.specs.Counts.{by_class, counts_of, none_by_class}
use Rattle.cache_core.specs.Residents.{distinct, renewals}
use Rattle.cache_core.specs.Kinds.{shadow_of}
use Rattle.marked_list.specs.Recency.{level_of}
use Rattle.grid_core.specs.declared.cells.Alike.{Alike}
use Rattle.grid_core.specs.declared.cells.Shape.{Shape}
use Rattle.grid_core.specs.declared.stack.Stack.{Stack}
use Rattle.grid_core.specs.Cells.{IsPlacedOn, shape_rules}
use Rattle.grid_core.specs.Histograms.{level_at, misses_past, past_in}
use Rattle.grid_core.specs.Standing.{IsCountedIn, StackStandsFor, rules_of_rows, written_at}
use Rattle.grid_core.specs.State.{IsAlike, IsRanked, base_rules, counts_at, shape_misses}
use Rattle.grid_core.specs.State.{shape_written_back, whole_counts}
use Rattle.grid_core.specs.Ways.{stack_distance}
use Rattle.grid_core.proofs.After.{level-is, near-is}
use Rattle.grid_core.proofs.Distances.{hits-distance}
use Rattle.grid_core.proofs.MissParts.{by-class-same, hit, near}
use Rattle.grid_core.proofs.Sharing.{whole-is}
use Rattle.grid_core.proofs.StackRules.{stacked}
use Rattle.grid_core.proofs.WrittenBack.{written-is}

not-below : (a n : ℕ) → not (ltb n (a + 1)) ≡ ltb a n
not-below a n = grind (arith, nat_tests)

none-below : (n : ℕ) → ltb n 0 ≡ false
none-below n = grind (arith, nat_tests)

and-true : (t : Bool) → (t && true) ≡ t
and-true true = refl
and-true false = refl

module _ (g : Geometry) (sizes : List ℕ) (rising : IsStrictlyIncreasing sizes) (t : Stack)
    (s : Shape) (ranked : IsRanked sizes g s) (on : IsPlacedOn (rules_of_rows t) s) (h : History)
    (counted : IsCountedIn sizes h t) where
  abbrev r : Rules
  r = rules_of_rows t

  hit-at : (e : History) (x : Access) → ltb (stack_distance r e (block_of r x)) s.ways
      ≡ hit (shape_rules s) e x
  hit-at e x = sym (hits-distance r (stacked t) s.ways on.fits e x)
      ∙ ap (λ q. hit q e x) on.same

  size : r.bsize ≡ bsize_of g
  size = ap (λ (q : Rules). q.bsize) on.same ∙ ranked.same

  near-at : (e : History) (x : Access) → not (ltb s.rank (level_at r sizes e x))
      ≡ near (shape_rules s) e x
  near-at e x = ap (λ l. not (ltb s.rank l)) (sym (level-is g e x sizes r (stacked t) size
      (level_of sizes (distinct (renewals (shadow_of (base_rules g)) e))
      (block_of (base_rules g) x)) refl))
      ∙ near-is g e x sizes rising s ranked

  misses : past_in t.histogram s.ways 0 ≡ by_class (λ e x. not (hit (shape_rules s) e x)) h
  misses = counted.missed s.ways 0 on.some
      ∙ by-class-same (misses_past r sizes s.ways 0) (λ e x. not (hit (shape_rules s) e x))
      (λ e x. ap (λ v. not (ltb (stack_distance r e (block_of r x)) s.ways) && not v)
      (none-below (level_at r sizes e x))
      ∙ and-true (not (ltb (stack_distance r e (block_of r x)) s.ways))
      ∙ ap not (hit-at e x)) h

  double : (a : Bool) (b : Bool) → not a ≡ b → a ≡ not b
  double true b e = ap not e
  double false b e = ap not e

  far : past_in t.histogram s.ways (s.rank + 1)
      ≡ by_class (λ e x. not (hit (shape_rules s) e x) && not (near (shape_rules s) e x)) h
  far = counted.missed s.ways (s.rank + 1) on.some
      ∙ by-class-same (misses_past r sizes s.ways (s.rank + 1))
      (λ e x. not (hit (shape_rules s) e x) && not (near (shape_rules s) e x))
      (λ e x. ap (λ v. not v && not (ltb (level_at r sizes e x) (s.rank + 1))) (hit-at e x)
      ∙ ap (λ v. not (hit (shape_rules s) e x) && v) (not-below s.rank (level_at r sizes e x)
      ∙ double (ltb s.rank (level_at r sizes e x)) (near (shape_rules s) e x) (near-at e x))) h

  -- the counts that the rows give are those of the cache
  pub counts-are : StackStandsFor t h → (a : Alike) → IsAlike g h a
      → whole_counts a (past_in t.histogram s.ways 0) (past_in t.histogram s.ways (s.rank + 1))
      (written_at t s.ways) s.wback ≡ counts_of (shape_rules s) h
  counts-are stands a alike = whole-is g h a alike s ranked.same (past_in t.histogram s.ways 0)
      (past_in t.histogram s.ways (s.rank + 1)) (written_at t s.ways) misses far
      (written-is sizes t h stands counted s.ways on.some on.fits
      ∙ ap (λ q. (counts_of q h).written_back) on.same)

-- the counts of a shape are those that its rows give
module _ (stacks : List Stack) (v : Shape) (w : Stack) (here : w ≡ get_or stacks v.stack w)
    (inside : v.stack < length stacks) where
  misses-here : (k : ℕ) → past_in w.histogram v.ways k ≡ shape_misses stacks v k
  misses-here k = ap (λ (t : Stack). past_in t.histogram v.ways k) here
      ∙ sym (get_or-map (λ (t : Stack). past_in t.histogram v.ways k) stacks v.stack w none_by_class
      inside)

  backs-here : written_at w v.ways ≡ shape_written_back stacks v
  backs-here = ap (λ (t : Stack). written_at t v.ways) here
      ∙ sym (get_or-map (λ (t : Stack). written_at t v.ways) stacks v.stack w 0 inside)

  pub kept-here : (a : Alike) → whole_counts a (past_in w.histogram v.ways 0)
      (past_in w.histogram v.ways (v.rank + 1)) (written_at w v.ways) v.wback
      ≡ counts_at a stacks v
  kept-here a = ap (λ p. whole_counts a p (past_in w.histogram v.ways (v.rank + 1))
      (written_at w v.ways) v.wback) (misses-here 0)
      ∙ ap (λ p. whole_counts a (shape_misses stacks v 0) p (written_at w v.ways) v.wback)
      (misses-here (v.rank + 1))
      ∙ ap (λ n. whole_counts a (shape_misses stacks v 0) (shape_misses stacks v (v.rank + 1)) n
      v.wback) backs-here
