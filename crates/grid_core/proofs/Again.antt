-- The state of the caches after one more use of the block that was used last: it is as before.
use Rattle.std.proofs.Common.{◌≡◌, ℕ, ◌%◌, ◌/◌, ◌<◌, Bool, true, not, ◌||◌, ◌==◌, ltb}
use Rattle.std.proofs.Common.{List, [], ◌∷◌, get_or, map, refl, sym, ap, subst, ◌∙◌, arith}
use Rattle.std.specs.List.{All, list_any}
use Rattle.std.proofs.Math.Nat.{mod-lt}
use Rattle.std.proofs.lemmas.Bool.{eqb-true, lt-ltb, le-ltb, false≢true}
use Rattle.cache_core.specs.declared.geometry.Geometry.{Geometry}
use Rattle.cache_core.specs.declared.access.Access.{Access}
use Rattle.cache_core.specs.Counting.{with_one}
use Rattle.cache_core.specs.Counts.{counts_of}
use Rattle.cache_core.specs.Geometry.{bsize_of}
use Rattle.cache_core.specs.History.{History, Rules, access, flush, block_of, is_write}
use Rattle.cache_core.specs.Kinds.{referenced_blocks, shadow_of}
use Rattle.cache_core.specs.Parts.{outcome_of}
use Rattle.cache_core.specs.Residents.{distinct, hits, renewals}
use Rattle.cache_core.proofs.Rising.{once-more}
use Rattle.cache_core.proofs.Lawful.{sane_of}
use Rattle.cache_core.proofs.Steps.{counts-step}
use Rattle.marked_list.specs.Recency.{brought_front}
use Rattle.marked_list.proofs.LevelLaws.{front-brought}
use Rattle.grid_core.specs.declared.cells.Shape.{Shape}
use Rattle.grid_core.specs.declared.shadows.Shadows.{Shadows}
use Rattle.grid_core.specs.declared.stack.Stack.{Stack}
use Rattle.grid_core.specs.FullyAssociative.{shadow_misses}
use Rattle.grid_core.specs.Cells.{HitsIn, IsPlacedAmong, IsPlacedOn, KnowsPrior, shape_rules}
use Rattle.grid_core.specs.Recent.{IsAgain, used_last, written_last}
use Rattle.grid_core.specs.Shadows.{HoldsOrder, recent_in, shadow_sizes}
use Rattle.grid_core.specs.Shapes.{HaveBsize}
use Rattle.grid_core.specs.Slots.{next_slots}
use Rattle.grid_core.specs.Standing.{StackStandsFor, StaysFirst, row_slots, rules_of_rows}
use Rattle.grid_core.specs.State.{IsAfter, IsRanked, base_rules}
use Rattle.grid_core.specs.Ways.{IsStacked}
use Rattle.grid_core.specs.Written.{no_rules}
use Rattle.grid_core.proofs.After.{referenced-next, referenced-size}
use Rattle.grid_core.proofs.Counted.{counted-first}
use Rattle.grid_core.proofs.Hitting.{with-none}
use Rattle.grid_core.proofs.ListLoops.{told-at}
use Rattle.grid_core.proofs.Repeats.{distance-last, front-again, level-last, recent-again}
use Rattle.grid_core.proofs.Repeats.{renewed-last, resident-last, row-again}
use Rattle.grid_core.proofs.Served.{hit-is}
use Rattle.grid_core.proofs.StackRules.{some-sets, some-ways, stacked}
use Rattle.grid_core.proofs.StackStep.{rows-next}

-- a shadow that hits has missed as often as before
far-again : (r : Rules) (h : History) (x : Access)
    → hits (shadow_of r) (renewals (shadow_of r) h) x ≡ true
    → shadow_misses r h ≡ shadow_misses r (access x ∷ h)
unfolding shadow_misses outcome_of
far-again r h x shadow =
    let w = shadow_of r in
    sym (with-none x (counts_of w h).misses)
    ∙ ap (λ t. with_one x (not t) (counts_of w h).misses) (sym shadow)
    ∙ ap (λ n. n.misses) (counts-step w h x)

-- a block that was used last is known
known-again : (n b : ℕ) (r : Rules) (h : History) → r.bsize ≡ n → used_last n b h ≡ true → (c : ℕ)
    → list_any (λ t. t == c) (referenced_blocks r h)
    ≡ (b == c || list_any (λ t. t == c) (referenced_blocks r h))
unfolding used_last referenced_blocks
known-again n b r [] same e c = absurd (false≢true e)
known-again n b r (flush ∷ h) same e c = absurd (false≢true e)
known-again n b r (access y ∷ h) same e c =
    let is : block_of r y ≡ b = ap (λ m. y.addr / m) same ∙ eqb-true (y.addr / n) b e in
    once-more (block_of r y == c) (list_any (λ t. t == c) (referenced_blocks r h))
    ∙ ap (λ d. d == c || (block_of r y == c || list_any (λ t. t == c) (referenced_blocks r h))) is

-- the block size of the rows at an index
pub size-at : (n : ℕ) (stacks : List Stack) → HaveBsize n stacks
    → All (λ s. (rules_of_rows s).bsize ≡ n) stacks
size-at n stacks = told-at rules_of_rows (λ r. r.bsize ≡ n) stacks

module _ (n : ℕ) (h : History) (x : Access) (last : used_last n (x.addr / n) h ≡ true) where
  -- in the words of the rules of a cache of the block size
  last-in : (r : Rules) → r.bsize ≡ n → used_last r.bsize (block_of r x) h ≡ true
  last-in r same = subst (λ m. used_last m (x.addr / m) h ≡ true) (sym same) last

  -- each cache hits
  pub hits-again : (r : Rules) (s : Shape) → IsPlacedOn r s → bsize_of s.geometry ≡ n
      → HitsIn h x s
  hits-again r s on size =
      let st : IsStacked r = record {
        lru = ap (λ (w : Rules). w.fifo) on.same;
        allocates = ap (λ (w : Rules). w.walloc) on.same;
      } in
      let same : r.bsize ≡ n = ap (λ (w : Rules). w.bsize) on.same ∙ size in
      let some = on.some in
      let fits = on.fits in
      hit-is r st s on h x
      (ap (λ d. ltb d s.ways) (distance-last r st (block_of r x) (omega arith) h (last-in r same))
      ∙ lt-ltb 0 s.ways on.some)

  -- and so does its shadow
  shadow-again : (s : Shape) → bsize_of s.geometry ≡ n
      → hits (shadow_of (shape_rules s)) (renewals (shadow_of (shape_rules s)) h) x ≡ true
  shadow-again s size =
      let w = shadow_of (shape_rules s) in
      resident-last w (record { lru = refl; allocates = refl }) (block_of w x)
      (sane_of s.geometry).blocks_pos h (last-in w size)

  -- the block stays first in its row
  module _ (written : is_write x ≡ true → written_last n (x.addr / n) h ≡ true) (s : Stack)
      (same : (rules_of_rows s).bsize ≡ n) where
    written-in : is_write x ≡ true
        → written_last (rules_of_rows s).bsize (block_of (rules_of_rows s) x) h ≡ true
    written-in w = subst (λ m. written_last m (x.addr / m) h ≡ true) (sym same) (written w)

    pub stays-first : StaysFirst (rules_of_rows s) h x
    stays-first =
        let r = rules_of_rows s in
        let b = block_of r x in
        record {
          first = distance-last r (stacked s) b (some-ways s) h (last-in r same);
          dirty = λ w. level-last r (stacked s) b (some-ways s) h (written-in w);
        }

    -- rows stay as they are
    pub stands-again : StackStandsFor s h → StackStandsFor s (access x ∷ h)
    stands-again st =
        let r = rules_of_rows s in
        let b = block_of r x in
        let xs = row_slots s in
        let inside : b % r.sets < r.sets = mod-lt b (some-sets s) in
        let stays = row-again r (stacked s) b (some-ways s) h (is_write x) (last-in r same)
        written-in in
        record {
          rows = rows-next r (stacked s) h x xs st.rows inside xs
              (st.rows (b % r.sets) inside ∙ stays
              ∙ ap (next_slots b (is_write x)) (sym (st.rows (b % r.sets) inside)))
              (λ t apart. refl);
        }

-- each cache hits
pub all-again : (g : Geometry) (h : History) (x : Access) (sizes : List ℕ) (stacks : List Stack)
    (shapes : List Shape) → used_last (bsize_of g) (x.addr / bsize_of g) h ≡ true
    → All (λ s. IsPlacedAmong (map rules_of_rows stacks) s) shapes
    → All (IsRanked sizes g) shapes → All (HitsIn h x) shapes
all-again g h x sizes stacks shapes last placed ranked k d lt =
    let s = get_or shapes k d in
    let rs = map rules_of_rows stacks in
    hits-again (bsize_of g) h x last (get_or rs s.stack no_rules) s
    ((placed k d lt).placed no_rules) (ranked k d lt).same

-- what is known of the block that was used last
pub last-of : (blocks : List ℕ) (g : Geometry) (h : History) (stacks : List Stack)
    (shadows : Shadows) (shapes : List Shape) (b : ℕ) (write : Bool)
    → IsAfter blocks g stacks shadows shapes h → IsAgain b write (recent_in shadows)
    → used_last (bsize_of g) b h ≡ true
last-of blocks g h stacks shadows shapes b write st again =
    subst (λ c. used_last (bsize_of g) c h ≡ true) again.block (st.recent.used again.used)

-- it is no first access
pub known-last : (g : Geometry) (h : History) (b : ℕ) → used_last (bsize_of g) b h ≡ true
    → list_any (λ t. t == b) (referenced_blocks (base_rules g) h) ≡ true
unfolding used_last referenced_blocks
known-last g [] b e = absurd (false≢true e)
known-last g (flush ∷ h) b e = absurd (false≢true e)
known-last g (access y ∷ h) b e =
    ap (λ t. t || list_any (λ t. t == b) (referenced_blocks (base_rules g) h)) e

-- it is known in the words of each cache, and each shadow has it
pub prior-again : (g : Geometry) (h : History) (x : Access) (sizes : List ℕ) (shapes : List Shape)
    → used_last (bsize_of g) (x.addr / bsize_of g) h ≡ true → All (IsRanked sizes g) shapes
    → All (λ s. KnowsPrior s h x (record { known = true; level = 0 })) shapes
prior-again g h x sizes shapes last ranked k d lt =
    let s = get_or shapes k d in
    let q = shape_rules s in
    let n = bsize_of g in
    let same = (ranked k d lt).same in
    record {
      known = sym (ap (λ m. list_any (λ t. t == x.addr / m) (referenced_blocks q h)) same
          ∙ ap (list_any (λ t. t == x.addr / n)) (referenced-size q (base_rules g) same h)
          ∙ known-last g h (x.addr / n) last);
      far = ap not (le-ltb s.rank 0 (omega arith)) ∙ sym (shadow-again n h x last s same);
    }

-- nothing changes
pub after-again : (blocks : List ℕ) (g : Geometry) (h : History) (x : Access) (sizes : List ℕ)
    (stacks : List Stack) (shadows : Shadows) (shapes : List Shape) → HaveBsize (bsize_of g) stacks
    → All (IsRanked sizes g) shapes
    → IsAgain (x.addr / bsize_of g) (is_write x) (recent_in shadows)
    → IsAfter blocks g stacks shadows shapes h
    → IsAfter blocks g stacks shadows shapes (access x ∷ h)
after-again blocks g h x sizes stacks shadows shapes same ranked again st =
    let n = bsize_of g in
    let b = x.addr / n in
    let r = base_rules g in
    let w = shadow_of r in
    let last = last-of blocks g h stacks shadows shapes b (is_write x) st again in
    let written : is_write x ≡ true → written_last n b h ≡ true = λ e.
    subst (λ c. written_last n c h ≡ true) again.block (st.recent.written (again.written e)) in
    let front = renewed-last w (record { lru = refl; allocates = refl }) b h last in
    let order : distinct (renewals w h) ≡ distinct (renewals w (access x ∷ h)) =
    ap distinct front.1 ∙ sym (front-again b (distinct front.0))
    ∙ ap (brought_front b) (sym (ap distinct front.1)) ∙ sym (front-brought r refl h x) in
    record {
      rows = λ k d lt. stands-again n h x last written (get_or stacks k d)
          (size-at n stacks same k d lt) (st.rows k d lt);
      order = subst (HoldsOrder blocks shadows) order st.order;
      numbered = st.numbered;
      known = λ c. st.known c ∙ known-again n b r h refl last c ∙ referenced-next g h x c;
      counted = λ k d lt.
          let s = get_or stacks k d in
          counted-first (rules_of_rows s) (shadow_sizes shadows) h x s.histogram
          (stays-first n h x last written s (size-at n stacks same k d lt)) (st.counted k d lt);
      far = λ k d lt.
          let s = get_or shapes k d in
          st.far k d lt ∙ far-again (shape_rules s) h x
          (shadow-again n h x last s (ranked k d lt).same);
      recent = recent-again n (recent_in shadows) h x again st.recent;
    }
