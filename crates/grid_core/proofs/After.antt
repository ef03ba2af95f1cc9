-- The state of the caches that are served together after one more event.
use Rattle.std.proofs.Common.{◌≡◌, ℕ, suc, ◌/◌, Bool, false, not, ◌||◌, ◌==◌, ltb, List, []}
use Rattle.std.proofs.Common.{◌∷◌, drop}
use Rattle.std.proofs.Common.{length, get_or, map, refl, sym, ap, subst, ◌∙◌}
use Rattle.std.specs.List.{All, list_any}
use Rattle.std.specs.List.Sorted.{IsStrictlyIncreasing}
use Rattle.std.proofs.lemmas.List.{length-map}
use Rattle.cache_core.specs.declared.geometry.Geometry.{Geometry}
use Rattle.cache_core.specs.declared.access.Access.{Access}
use Rattle.cache_core.specs.Geometry.{bsize_of}
use Rattle.cache_core.specs.History.{History, Rules, block_of, access, flush, is_write}
use Rattle.cache_core.specs.Residents.{distinct, hits, renewals}
use Rattle.cache_core.specs.Kinds.{referenced_blocks, shadow_of}
use Rattle.cache_core.specs.Counts.{counts_of, none_by_class, tally}
use Rattle.cache_core.specs.Counting.{with_one}
use Rattle.cache_core.proofs.Nothing.{renewals-flush}
use Rattle.marked_list.specs.Recency.{is_among, level_of, brought_front}
use Rattle.marked_list.proofs.LevelLaws.{level-tells, shadow-holds, front-brought}
use Rattle.grid_core.specs.declared.cells.Shape.{Shape}
use Rattle.grid_core.specs.declared.shadows.Shadows.{Shadows}
use Rattle.grid_core.specs.declared.shadows.PriorLevel.{PriorLevel}
use Rattle.grid_core.specs.declared.stack.Stack.{Stack}
use Rattle.grid_core.specs.FullyAssociative.{shadow_misses}
use Rattle.grid_core.specs.Ways.{IsStacked}
use Rattle.grid_core.specs.Histograms.{level_at}
use Rattle.grid_core.specs.Standing.{IsCountedIn, IsEmptyStack, StackStandsFor}
use Rattle.grid_core.specs.Recent.{IsRecent, after_use, none_recent}
use Rattle.grid_core.specs.Shadows.{AreNumbered, HoldsOrder, far_in, is_known, levels_in}
use Rattle.grid_core.specs.Shadows.{recent_in, shadow_sizes}
use Rattle.grid_core.specs.Cells.{KnowsPrior, dirty_bytes_of, shape_rules}
use Rattle.grid_core.specs.State.{IsAfter, IsRanked, base_rules}
use Rattle.grid_core.specs.Totals.{total}
use Rattle.grid_core.specs.Written.{written_by}
use Rattle.grid_core.proofs.Distances.{renewals-size}
use Rattle.grid_core.proofs.Served.{far-step}
use Rattle.grid_core.proofs.Repeats.{recent-access, recent-none}

pub referenced-size : (q r : Rules) → q.bsize ≡ r.bsize → (h : History)
    → referenced_blocks q h ≡ referenced_blocks r h
unfolding referenced_blocks
referenced-size q r same [] = refl
referenced-size q r same (flush ∷ h) = referenced-size q r same h
referenced-size q r same (access x ∷ h) = ap (λ n. x.addr / n ∷ referenced_blocks q h) same
    ∙ ap (λ l. block_of r x ∷ l) (referenced-size q r same h)

module _ (g : Geometry) (h : History) (x : Access) where
  abbrev r : Rules
  r = base_rules g

  abbrev b : ℕ
  b = block_of r x

  abbrev ys : List ℕ
  ys = distinct (renewals (shadow_of r) h)

  -- the level of the block tells whether the shadow of a cache hits
  pub near-is : (sizes : List ℕ) → IsStrictlyIncreasing sizes → (s : Shape) → IsRanked sizes g s
      → not (ltb s.rank (level_of sizes ys b))
      ≡ hits (shadow_of (shape_rules s)) (renewals (shadow_of (shape_rules s)) h) x
  near-is sizes rising s ranked =
      let q = shape_rules s in
      let ms = renewals (shadow_of q) h in
      let sq : IsStacked (shadow_of q) = record { lru = refl; allocates = refl } in
      let sr : IsStacked (shadow_of r) = record { lru = refl; allocates = refl } in
      ap (λ l. not (ltb s.rank (level_of sizes (distinct l) b)))
      (sym (renewals-size (shadow_of q) (shadow_of r) sq sr ranked.same h))
      ∙ ap (λ n. not (ltb s.rank (level_of sizes (distinct ms) (x.addr / n)))) (sym ranked.same)
      ∙ sym (level-tells sizes rising (distinct ms) (block_of q x) s.rank ranked.inside)
      ∙ ap (is_among (block_of q x) (distinct ms)) ranked.found
      ∙ sym (shadow-holds q ms (block_of q x))

  -- what the shadows and the known blocks tell of an access, for each cache
  pub prior-known : (sizes : List ℕ) → IsStrictlyIncreasing sizes → (known : ℕ → Bool)
      (p : PriorLevel) → p.known ≡ known b → p.level ≡ level_of sizes ys b
      → ((c : ℕ) → known c ≡ list_any (λ t. t == c) (referenced_blocks r h))
      → (s : Shape) → IsRanked sizes g s → KnowsPrior s h x p
  prior-known sizes rising known p was level noted s ranked =
      let q = shape_rules s in
      record {
        known = was ∙ noted b
            ∙ ap (λ l. list_any (λ t. t == b) l) (sym (referenced-size q r ranked.same h))
            ∙ ap (λ n. list_any (λ t. t == x.addr / n) (referenced_blocks q h)) (sym ranked.same);
        far = ap (λ l. not (ltb s.rank l)) level ∙ near-is sizes rising s ranked;
      }

  pub referenced-next : (c : ℕ) → (b == c || list_any (λ t. t == c) (referenced_blocks r h))
      ≡ list_any (λ t. t == c) (referenced_blocks r (access x ∷ h))
  unfolding referenced_blocks
  referenced-next c = refl

  -- so it is known for each shape
  pub shapes-prior : (blocks : List ℕ) (sizes : List ℕ) → IsStrictlyIncreasing sizes
      → (stacks : List Stack) (shadows : Shadows) (first : List Shape) (p : PriorLevel)
      → IsAfter blocks g stacks shadows first h → p.known ≡ is_known blocks shadows b
      → ((zs : List ℕ) → HoldsOrder blocks shadows zs
      → p.level ≡ level_of sizes zs b) → (shapes : List Shape) → All (IsRanked sizes g) shapes
      → All (λ s. KnowsPrior s h x p) shapes
  shapes-prior blocks sizes rising stacks shadows first p st was level shapes ranked k d lt =
      prior-known sizes rising (is_known blocks shadows) p was (level ys st.order) st.known
      (get_or shapes k d) (ranked k d lt)

  -- the level of the block in the shadows, in the words of rows of the block size
  pub level-is : (sizes : List ℕ) (q : Rules) → IsStacked q → q.bsize ≡ bsize_of g → (level : ℕ)
      → level ≡ level_of sizes ys b → level ≡ level_at q sizes h x
  level-is sizes q st same level is =
      is
      ∙ ap (λ l. level_of sizes (distinct l) b) (sym (renewals-size q (shadow_of r) st
      (record { lru = refl; allocates = refl }) same h))
      ∙ ap (λ n. level_of sizes (distinct (renewals q h)) (x.addr / n)) (sym same)

  pub after-access : (blocks : List ℕ) (stacks stacks' : List Stack) (shadows shadows' : Shadows)
      (shapes : List Shape) (p : PriorLevel) → IsAfter blocks g stacks shadows shapes h
      → All (λ s. KnowsPrior s h x p) shapes
      → All (λ s. StackStandsFor s (access x ∷ h)) stacks'
      → All (IsCountedIn (shadow_sizes shadows) (access x ∷ h)) stacks'
      → ((zs : List ℕ) → HoldsOrder blocks shadows zs
      → HoldsOrder blocks shadows' (brought_front b zs))
      → ((c : ℕ) → is_known blocks shadows' c ≡ (b == c || is_known blocks shadows c))
      → AreNumbered blocks shadows'
      → recent_in shadows' ≡ after_use b (is_write x) (recent_in shadows)
      → ((k : ℕ) → far_in shadows' k ≡ with_one x (ltb k p.level) (far_in shadows k))
      → shadow_sizes shadows' ≡ shadow_sizes shadows
      → IsAfter blocks g stacks' shadows' shapes (access x ∷ h)
  after-access blocks stacks rows' shadows shadows' shapes p st prior rows counted order adds low
      at far sizes = record {
        rows = rows;
        order = subst (HoldsOrder blocks shadows') (sym (front-brought r refl h x))
            (order ys st.order);
        numbered = low;
        known = λ c. adds c ∙ ap (λ t. b == c || t) (st.known c) ∙ referenced-next c;
        counted = subst (λ (z : List ℕ). All (IsCountedIn z (access x ∷ h)) rows') (sym sizes)
            counted;
        far = λ k d lt.
            let s = get_or shapes k d in
            far s.rank ∙ ap (with_one x (ltb s.rank p.level)) (st.far k d lt)
            ∙ far-step s h x p (prior k d lt);
        recent = subst (λ p. IsRecent (bsize_of g) p (access x ∷ h)) (sym at)
            (recent-access (bsize_of g) (recent_in shadows) h x st.recent);
      }

-- a flush leaves the misses of the shadow as they are
pub far-flush : (r : Rules) (h : History) → shadow_misses r h ≡ shadow_misses r (flush ∷ h)
unfolding shadow_misses counts_of tally
far-flush r h = refl

-- and the known blocks known
pub referenced-flush : (r : Rules) (h : History) (b : ℕ)
    → list_any (λ t. t == b) (referenced_blocks r h)
    ≡ list_any (λ t. t == b) (referenced_blocks r (flush ∷ h))
unfolding referenced_blocks
referenced-flush r h b = refl

module _ (g : Geometry) (h : History) where
  pub after-flush : (blocks : List ℕ) (stacks stacks' : List Stack) (shadows shadows' : Shadows)
      (shapes : List Shape) → IsAfter blocks g stacks shadows shapes h
      → All (λ s. StackStandsFor s (flush ∷ h)) stacks'
      → All (IsCountedIn (shadow_sizes shadows) (flush ∷ h)) stacks'
      → HoldsOrder blocks shadows' []
      → ((c : ℕ) → is_known blocks shadows' c ≡ is_known blocks shadows c)
      → AreNumbered blocks shadows'
      → recent_in shadows' ≡ none_recent → levels_in shadows' ≡ levels_in shadows
      → shadow_sizes shadows' ≡ shadow_sizes shadows
      → IsAfter blocks g stacks' shadows' shapes (flush ∷ h)
  after-flush blocks stacks rows' shadows shadows' shapes st rows counted order same low none
      levels sizes = record {
        rows = rows;
        order = subst (HoldsOrder blocks shadows')
            (sym (ap distinct (renewals-flush (shadow_of (base_rules g)) h))) order;
        numbered = low;
        known = λ c. same c ∙ st.known c ∙ referenced-flush (base_rules g) h c;
        counted = subst (λ (z : List ℕ). All (IsCountedIn z (flush ∷ h)) rows') (sym sizes)
            counted;
        far = λ k d lt.
            let s = get_or shapes k d in
            ap (λ l. total (drop (suc s.rank) l)) levels ∙ st.far k d lt
            ∙ far-flush (shape_rules s) h;
        recent = subst (λ p. IsRecent (bsize_of g) p (flush ∷ h)) (sym none)
            (recent-none (bsize_of g) (flush ∷ h));
      }

-- the shadow has missed nothing at the start
pub far-start : (r : Rules) → none_by_class ≡ shadow_misses r []
unfolding counts_of tally shadow_misses
far-start r = refl

-- before the first event
pub after-start : (blocks : List ℕ) (g : Geometry) (stacks : List Stack) (shadows : Shadows)
    (shapes : List Shape) (levels : ℕ) → All (IsEmptyStack levels) stacks
    → HoldsOrder blocks shadows [] → ((c : ℕ) → is_known blocks shadows c ≡ false)
    → AreNumbered blocks shadows → recent_in shadows ≡ none_recent
    → ((k : ℕ) → far_in shadows k ≡ none_by_class) → IsAfter blocks g stacks shadows shapes []
unfolding renewals referenced_blocks
after-start blocks g stacks shadows shapes levels empty order known low none far = record {
  rows = λ k d lt. (empty k d lt).stands;
  order = order;
  known = known;
  numbered = low;
  counted = λ k d lt. (empty k d lt).counted (shadow_sizes shadows);
  far = λ k d lt.
      let s = get_or shapes k d in
      far s.rank ∙ far-start (shape_rules s);
  recent = subst (λ p. IsRecent (bsize_of g) p []) (sym none) (recent-none (bsize_of g) []);
}

-- what a flush writes back, in the words of the rules
pub written-shapes : (h : History) (shapes : List Shape)
    → map (dirty_bytes_of h) shapes ≡ map (written_by h) (map shape_rules shapes)
written-shapes h [] = refl
written-shapes h (s ∷ shapes) = ap (λ l. dirty_bytes_of h s ∷ l) (written-shapes h shapes)

-- there are as many rules as shapes
pub as-many : (shapes : List Shape) → length (map shape_rules shapes) ≡ length shapes
as-many shapes = length-map shapes shape_rules
