-- What a histogram has counted after one more event.
use Rattle.std.proofs.Common.{◌≡◌, ℕ, ◌<◌, ◌≤◌, Bool, true, false, not, ◌&&◌, ltb, List, [], ◌∷◌}
use Rattle.std.proofs.Common.{refl, sym, ap, subst, ◌∙◌, arith}
use Rattle.std.proofs.lemmas.Bool.{lt-ltb}
use Rattle.cache_core.specs.declared.access.Access.{Access}
use Rattle.cache_core.specs.History.{History, Rules, access, flush, block_of, is_write}
use Rattle.cache_core.specs.Counting.{IsWithin, with_one}
use Rattle.cache_core.specs.Counts.{by_class, none_by_class, tally}
use Rattle.grid_core.specs.declared.histogram.Histogram.{Histogram}
use Rattle.grid_core.specs.Histograms.{HasCounted, clean_ways, first_in, level_at, misses_past}
use Rattle.grid_core.specs.Histograms.{IsWithinHistogram, past_in, writes_first}
use Rattle.grid_core.specs.Levels.{dirty_level}
use Rattle.grid_core.specs.Slots.{level_after}
use Rattle.grid_core.specs.Standing.{StaysFirst}
use Rattle.grid_core.specs.Ways.{stack_distance}
use Rattle.grid_core.proofs.Fronts.{low-level}
use Rattle.grid_core.proofs.Hitting.{with-none}
use Rattle.grid_core.proofs.Totals.{within-more}

-- one access is counted if it passes the test
class-step : (test : History → Access → Bool) (h : History) (x : Access)
    → with_one x (test h x) (by_class test h) ≡ by_class test (access x ∷ h)
unfolding tally
class-step test h x = refl

class-same : (test : History → Access → Bool) (h : History) (x : Access) → test h x ≡ false
    → by_class test h ≡ by_class test (access x ∷ h)
class-same test h x e = sym (with-none x (by_class test h))
    ∙ ap (λ t. with_one x t (by_class test h)) (sym e) ∙ class-step test h x

class-flush : (test : History → Access → Bool) (h : History)
    → by_class test h ≡ by_class test (flush ∷ h)
unfolding tally
class-flush test h = refl

class-none : (test : History → Access → Bool) → none_by_class ≡ by_class test []
unfolding tally
class-none test = refl

-- a histogram of nothing has counted nothing
pub counted-none : (r : Rules) (sizes : List ℕ) (t : Histogram)
    → ((n k : ℕ) → past_in t n k ≡ none_by_class) → ((n : ℕ) → first_in t n ≡ none_by_class)
    → HasCounted r sizes [] t
counted-none r sizes t past first = record {
  missed = λ n k some. past n k ∙ class-none (misses_past r sizes n k);
  first = λ n some. first n ∙ class-none (writes_first r n);
}

-- a flush is not counted
pub counted-flush : (r : Rules) (sizes : List ℕ) (h : History) (t : Histogram)
    → HasCounted r sizes h t → HasCounted r sizes (flush ∷ h) t
counted-flush r sizes h t c = record {
  missed = λ n k some. c.missed n k some ∙ class-flush (misses_past r sizes n k) h;
  first = λ n some. c.first n some ∙ class-flush (writes_first r n) h;
}

-- an access is counted by its place, by the number of ways in which it was not dirty, and by its
-- level
pub counted-next : (r : Rules) (sizes : List ℕ) (h : History) (x : Access) (t u : Histogram)
    (place clean level : ℕ) → place ≡ stack_distance r h (block_of r x)
    → clean ≡ clean_ways r h (block_of r x) → level ≡ level_at r sizes h x
    → ((n k : ℕ) → 0 < n → past_in u n k
    ≡ with_one x (not (ltb place n) && not (ltb level k)) (past_in t n k))
    → ((n : ℕ) → 0 < n → first_in u n
    ≡ with_one x (is_write x && not (ltb clean n)) (first_in t n))
    → HasCounted r sizes h t → HasCounted r sizes (access x ∷ h) u
counted-next r sizes h x t u place clean level at untouched low past first c = record {
  missed = λ n k some. past n k some
      ∙ ap (λ p. with_one x (not (ltb p n) && not (ltb level k)) (past_in t n k)) at
      ∙ ap (λ l. with_one x (not (ltb (stack_distance r h (block_of r x)) n) && not (ltb l k))
      (past_in t n k)) low
      ∙ ap (with_one x (misses_past r sizes n k h x)) (c.missed n k some)
      ∙ class-step (misses_past r sizes n k) h x;
  first = λ n some. first n some
      ∙ ap (λ l. with_one x (is_write x && not (ltb l n)) (first_in t n)) untouched
      ∙ ap (with_one x (writes_first r n h x)) (c.first n some)
      ∙ class-step (writes_first r n) h x;
}

-- the block of an access that stays first misses nowhere
near-hits : (r : Rules) (sizes : List ℕ) (h : History) (x : Access) → StaysFirst r h x
    → (n k : ℕ) → 0 < n → misses_past r sizes n k h x ≡ false
near-hits r sizes h x stay n k some =
    ap (λ d. not (ltb d n) && not (ltb (level_at r sizes h x) k)) stay.first
    ∙ ap (λ t. not t && not (ltb (level_at r sizes h x) k)) (lt-ltb 0 n some)

-- and it was dirty everywhere, if this is a write
near-dirty : (r : Rules) (h : History) (x : Access) → StaysFirst r h x
    → (n : ℕ) → 0 < n → writes_first r n h x ≡ false
near-dirty r h x stay n some = (elim (is_write x) as (λ t. is_write x ≡ t
    → (t && not (ltb (clean_ways r h (block_of r x)) n)) ≡ false) [
      | true ↦ λ e.
          let b = block_of r x in
          ap (λ d. not (ltb (level_after false (dirty_level r h b) d) n)) stay.first
          ∙ ap (λ l. not (ltb l n)) (low-level (dirty_level r h b))
          ∙ ap (λ l. not (ltb l n)) (stay.dirty e)
          ∙ ap not (lt-ltb 0 n some)
      | false ↦ λ e. refl
    ]) refl

-- nothing is counted of an access whose block stays first
pub counted-first : (r : Rules) (sizes : List ℕ) (h : History) (x : Access) (t : Histogram)
    → StaysFirst r h x → HasCounted r sizes h t → HasCounted r sizes (access x ∷ h) t
counted-first r sizes h x t stay c = record {
  missed = λ n k some. c.missed n k some
      ∙ class-same (misses_past r sizes n k) h x (near-hits r sizes h x stay n k some);
  first = λ n some. c.first n some
      ∙ class-same (writes_first r n) h x (near-dirty r h x stay n some);
}

-- and no count of it is above 0
pub within-none : (t : Histogram) → ((n k : ℕ) → past_in t n k ≡ none_by_class)
    → ((n : ℕ) → first_in t n ≡ none_by_class) → IsWithinHistogram 0 t
within-none t past first = (
  subst (λ p. IsWithin p 0) (sym (past 0 0)) none-above,
  subst (λ p. IsWithin p 0) (sym (first 0)) none-above,
)
  where
    none-above : IsWithin none_by_class 0
    none-above = record {
      instr = omega arith;
      read = omega arith;
      write = omega arith;
      misc = omega arith;
    }

-- a larger bound holds too
pub bound-more : (t : Histogram) (n m : ℕ) → n ≤ m → IsWithinHistogram n t
    → IsWithinHistogram m t
bound-more t n m le all = (
  within-more (past_in t 0 0) n m le all.0,
  within-more (first_in t 0) n m le all.1,
)
