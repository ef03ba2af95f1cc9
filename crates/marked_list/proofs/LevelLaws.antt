-- What the level of a block says.
use Rattle.std.proofs.Common.{◌≡◌, ℕ, zero, suc, ◌%◌, ◌<◌, Bool, true, false, cond, not, ◌&&◌, ◌||◌}
use Rattle.std.proofs.Common.{eqb, ltb, List}
use Rattle.std.proofs.Common.{[], ◌∷◌, length, take, get_or, filter, refl, sym, ap, ◌∙◌, arith}
use Rattle.std.specs.List.{AllPairs}
use Rattle.std.specs.List.Sorted.{IsStrictlyIncreasing}
use Rattle.std.proofs.lemmas.List.Kept.{AllPairs-from_increasing}
use Rattle.std.proofs.lemmas.Bool.{eq-eqb, lt-ltb, le-ltb, ltb-true, and_parts}
use Rattle.cache_core.specs.declared.access.Access.{Access}
use Rattle.cache_core.specs.History.{Rules, History, access, block_of, is_write}
use Rattle.cache_core.specs.Residents.{distinct, before, hits, renewals, is_resident}
use Rattle.cache_core.specs.Kinds.{shadow_of}
use Rattle.cache_core.proofs.Reuse.{has, has-take, has-ways_of, ltb-suc}
use Rattle.cache_core.proofs.Turns.{renewals-yes, block-lru}
use Rattle.cache_core.proofs.Cases.{by_cases}
use Rattle.marked_list.specs.Recency.{is_among, level_of, brought_front}

-- a larger size holds more
grows : (ys : List ℕ) (b n m : ℕ) → n < m → is_among b ys n ≡ true → is_among b ys m ≡ true
grows ys b n m lt h =
    let parts = and_parts (has ys b) (ltb (length (before b ys)) n) (sym (has-take n ys b) ∙ h) in
    let near = ltb-true (length (before b ys)) n parts.1 in
    has-take m ys b ∙ ap (λ t. t && ltb (length (before b ys)) m) parts.0
    ∙ lt-ltb (length (before b ys)) m (omega arith)

level-rises : (sizes : List ℕ) → AllPairs (λ m n. m < n) sizes → (ys : List ℕ) (b j : ℕ)
    → j < length sizes → is_among b ys (get_or sizes j 0) ≡ not (ltb j (level_of sizes ys b))
level-rises [] rising ys b j lt = absurd (omega arith)
level-rises (n ∷ ns) rising ys b zero lt = by_cases (is_among b ys n)
    (λ e. e ∙ sym (ap (λ t. not (ltb 0 (cond t 0 (suc (level_of ns ys b))))) e
    ∙ ap not (le-ltb 0 0 (omega arith))))
    (λ e. e ∙ sym (ap (λ t. not (ltb 0 (cond t 0 (suc (level_of ns ys b))))) e
    ∙ ap not (lt-ltb 0 (suc (level_of ns ys b)) (omega arith))))
level-rises (n ∷ ns) rising ys b (suc j) lt = by_cases (is_among b ys n)
    (λ e. grows ys b n (get_or ns j 0) (rising zero (suc j) 0 (omega arith) lt) e
    ∙ sym (ap (λ t. not (ltb (suc j) (cond t 0 (suc (level_of ns ys b))))) e
    ∙ ap not (le-ltb (suc j) 0 (omega arith))))
    (λ e. level-rises ns (λ i k d near within. rising (suc i) (suc k) d (omega arith) (omega arith))
    ys b j (omega arith)
    ∙ ap not (sym (ltb-suc j (level_of ns ys b)))
    ∙ sym (ap (λ t. not (ltb (suc j) (cond t 0 (suc (level_of ns ys b))))) e))

pub level-tells : (sizes : List ℕ) → IsStrictlyIncreasing sizes → (ys : List ℕ) (b j : ℕ)
    → j < length sizes → is_among b ys (get_or sizes j 0) ≡ not (ltb j (level_of sizes ys b))
level-tells sizes rising = level-rises sizes (AllPairs-from_increasing sizes rising)

one-set : (b : ℕ) (ms : List ℕ) → filter (λ m. eqb (m % 1) (b % 1)) ms ≡ ms
one-set b [] = refl
one-set b (m ∷ ms) = let e : eqb (m % 1) (b % 1) ≡ true = eq-eqb (m % 1) (b % 1) (omega arith) in
    rw e (ap (λ l. m ∷ l) (one-set b ms))

-- the shadow has the first blocks of its order
pub shadow-holds : (r : Rules) (ms : List ℕ) (b : ℕ)
    → is_resident (shadow_of r) ms b ≡ is_among b (distinct ms) r.blocks
shadow-holds r ms b = sym (has-ways_of (shadow_of r) ms b)
    ∙ ap (λ l. has (take r.blocks (distinct l)) b) (one-set b ms)

any-true : (t w z : Bool) → w ≡ true → (t || w || z) ≡ true
any-true true w z e = refl
any-true false w z e = ap (λ v. v || z) e

pub front-brought : (r : Rules) → r.walloc ≡ true → (h : History) (x : Access)
    → distinct (renewals (shadow_of r) (access x ∷ h))
    ≡ brought_front (block_of r x) (distinct (renewals (shadow_of r) h))
front-brought r alloc h x = let s = shadow_of r in
    let ms = renewals s h in
    ap distinct (renewals-yes s h x (block-lru s ms x true refl
    (any-true (not (is_write x)) r.walloc (hits s ms x) alloc)))
