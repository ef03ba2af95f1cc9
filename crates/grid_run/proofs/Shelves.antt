-- Shelves, and seats on them.
use Rattle.std.proofs.Common.{◌≡◌, ℕ, ◌/◌, ◌<◌, [], ◌∷◌, ◌++◌, List, length, get_or, map, set}
use Rattle.std.proofs.Common.{arith, true}
use Rattle.std.proofs.Common.{Result, Ok, Err, IfOk, OnErr, OnOk, refl, ap, sym, subst, ◌∙◌}
use Rattle.std.specs.List.{All}
use Rattle.std.proofs.lemmas.List.{get_or-map, length-map, map_push, map-set}
use Rattle.cache_core.specs.Geometry.{assoc_of, blocks_of, bsize_of, sets_of}
use Rattle.cache_core.specs.History.{Rules}
use Rattle.cache_core.specs.Policy.{is_fifo}
use Rattle.cache_core.specs.Standing.{rules_from}
use Rattle.cache_core.specs.declared.geometry.Geometry.{Geometry}
use Rattle.cache_core.specs.declared.policy.Policy.{Policy}
use Rattle.cache_core.specs.declared.policy.Repl.TheVariants.{Lru}
use Rattle.grid_core.specs.Standing.{stack_rules}
use Rattle.grid_core.specs.Written.{no_rules}
use Rattle.grid_core.proofs.Geometries.{ways-are}
use Rattle.grid_run.specs.Backs.{IsSeatIn}
use Rattle.grid_run.specs.Plans.{IsSameShape, ShelfSuits}
use Rattle.grid_run.specs.Seats.{IsCellOf, IsSeatOf, Keeps, KeepsCells, SeatRules, rules_of_seat}
use Rattle.grid_run.specs.Seats.{rules_on}
use Rattle.grid_run.specs.declared.seat.Seat.{Seat}
use Rattle.grid_run.specs.declared.shelf.Shelf.{Shelf}
use Rattle.grid_run.proofs.Growing.{all-push, at-changed, at-last, at-push, at-set, inside-last}
use Rattle.grid_run.proofs.Growing.{inside-push, inside-set}

-- geometries of one block size that have as many blocks, in as many sets, give the same rules
pub same-rules : (a b : Geometry) (p : Policy) → bsize_of a ≡ bsize_of b
    → blocks_of a ≡ blocks_of b → sets_of a ≡ sets_of b → rules_from a p ≡ rules_from b p
same-rules a b p bytes blocks sets =
    let ways : assoc_of a ≡ assoc_of b = sym (ways-are a) ∙ ap (λ n. n / sets_of a) blocks
    ∙ ap (λ n. blocks_of b / n) sets ∙ ways-are b in
    λ k. record {
      bsize = bytes k;
      sets = sets k;
      assoc = ways k;
      blocks = blocks k;
      fifo = is_fifo p;
      wback = p.wback;
      walloc = p.walloc;
    }

-- the rules of a single geometry, with an LRU policy that allocates at writes
pub lone-rules : (gs : List Geometry) (p : Policy) → length gs ≡ 1 → p.repl ≡ Lru
    → p.walloc ≡ true → (g : Geometry) → g ≡ get_or gs 0 g
    → map (λ s. rules_from s p) gs ≡ stack_rules g p.wback ∷ []
lone-rules [] p one lru loads g at = absurd (omega arith)
lone-rules (x ∷ []) p one lru loads g at =
    λ k. rules_from (sym at k) (record { repl = lru k; wback = p.wback; walloc = loads k }) ∷ []
lone-rules (x ∷ y ∷ gs) p one lru loads g at = absurd (omega arith)

-- single geometries that are the same, with the same policy, give the same rules
pub like-rules : (gs hs : List Geometry) (p q : Policy) → length gs ≡ 1 → length hs ≡ 1 → p ≡ q
    → (g h : Geometry) → g ≡ get_or gs 0 g → h ≡ get_or hs 0 h → bsize_of g ≡ bsize_of h
    → blocks_of g ≡ blocks_of h → sets_of g ≡ sets_of h
    → map (λ s. rules_from s q) hs ≡ map (λ s. rules_from s p) gs
like-rules [] hs p q one two same g h at there bytes blocks sets = absurd (omega arith)
like-rules (x ∷ []) [] p q one two same g h at there bytes blocks sets = absurd (omega arith)
like-rules (x ∷ []) (y ∷ []) p q one two same g h at there bytes blocks sets =
    ap (λ (r : Rules). r ∷ []) (ap (rules_from y) (sym same)
    ∙ same-rules y x p (ap bsize_of (sym there) ∙ sym bytes ∙ ap bsize_of at)
    (ap blocks_of (sym there) ∙ sym blocks ∙ ap blocks_of at)
    (ap sets_of (sym there) ∙ sym sets ∙ ap sets_of at))
like-rules (x ∷ []) (y ∷ z ∷ hs) p q one two same g h at there bytes blocks sets =
    absurd (omega arith)
like-rules (x ∷ y ∷ gs) hs p q one two same g h at there bytes blocks sets = absurd (omega arith)

-- the same geometry and policy give the same rules
pub same-from : (a b : Geometry) (p q : Policy) → a ≡ b → p ≡ q → rules_from a p ≡ rules_from b q
same-from a b p q at by = ap (λ g. rules_from g p) at ∙ ap (rules_from b) by

-- the cell of a geometry that is on the shelf
pub cell-found : (s : Shelf) (g : Geometry) (index : ℕ) → IsSameShape s.geometries.items g index
    → bsize_of g ≡ bsize_of s.first → IsCellOf (rules_on s) (rules_from g s.policy) index
unfolding rules_on
cell-found s g index same bytes =
    let gs = s.geometries.items in
    record {
      inside = subst (λ n. index < n) (sym (length-map gs (λ d. rules_from d s.policy)))
          same.inside;
      rules = get_or-map (λ d. rules_from d s.policy) gs index g no_rules same.inside
          ∙ same-rules (get_or gs index g) g s.policy
          (s.alike index g same.inside ∙ sym bytes) (same.blocks g) (same.sets g);
    }

-- the cell of a geometry that has joined the others
pub cell-joined : {E : Type 0} (gs gs' : List Geometry) (g : Geometry) (p : Policy)
    (r : Result ℕ E) → IfOk r (λ k. k ≡ length gs) → OnOk r (gs' ≡ gs ++ g ∷ [])
    → IfOk r (IsCellOf (map (λ d. rules_from d p) gs') (rules_from g p))
cell-joined gs gs' g p (Ok index) last is =
    let f = λ (d : Geometry). rules_from d p in
    let joined = ap (map f) is ∙ map_push f gs g in
    let at = last ∙ sym (length-map gs f) in
    record {
      inside = inside-last (map f gs) (map f gs') index (f g) joined at;
      rules = at-last (λ r. r ≡ f g) (map f gs) (map f gs') index (f g) no_rules joined at refl;
    }
cell-joined gs gs' g p (Err why) last is = tt

-- the other cells stay
pub cells-joined : (gs gs' : List Geometry) (g : Geometry) (p : Policy) → gs' ≡ gs ++ g ∷ []
    → KeepsCells (map (λ d. rules_from d p) gs) (map (λ d. rules_from d p) gs')
cells-joined gs gs' g p is = λ r cell own.
    let f = λ (d : Geometry). rules_from d p in
    let joined = ap (map f) is ∙ map_push f gs g in
    record {
      inside = inside-push (map f gs) (map f gs') cell (f g) joined own.inside;
      rules = at-push (λ q. q ≡ r) (map f gs) (map f gs') cell (f g) no_rules joined own.inside
          own.rules;
    }

-- the shelf keeps to one block size, whether the geometry joins or not
pub alike-added : {E : Type 0} (b : ℕ) (r : Result ℕ E) (gs gs' : List Geometry) (g : Geometry)
    → OnOk r (gs' ≡ gs ++ g ∷ []) → OnErr r (gs' ≡ gs) → All (λ d. bsize_of d ≡ b) gs
    → bsize_of g ≡ b → All (λ d. bsize_of d ≡ b) gs'
alike-added b (Ok index) gs gs' g is same all one =
    all-push (λ d. bsize_of d ≡ b) gs gs' g is all one
alike-added b (Err why) gs gs' g is same all one =
    subst (All (λ d. bsize_of d ≡ b)) (sym same) all

-- a seat by the cell of its family
seat-of : (t : SeatRules) (r : Rules) (s : Seat) → s.family < length t
    → IsCellOf (get_or t s.family []) r s.cell → IsSeatOf t r s
seat-of t r s lt own = record { family = lt; cell = own.inside; rules = own.rules }

cell-of : (t : SeatRules) (r : Rules) (s : Seat) → IsSeatOf t r s
    → IsCellOf (get_or t s.family []) r s.cell
cell-of t r s own = record { inside = own.cell; rules = own.rules }

-- seats stay where a shelf joins the others
pub seats-joined : (xs ys : List Shelf) (x : Shelf) → ys ≡ xs ++ x ∷ []
    → Keeps (map rules_on xs) (map rules_on ys)
seats-joined xs ys x is = λ r s own.
    let joined = ap (map rules_on) is ∙ map_push rules_on xs x in
    seat-of (map rules_on ys) r s
    (inside-push (map rules_on xs) (map rules_on ys) s.family (rules_on x) joined own.family)
    (at-push (λ l. IsCellOf l r s.cell) (map rules_on xs) (map rules_on ys) s.family (rules_on x) []
    joined own.family (cell-of (map rules_on xs) r s own))

module _ (xs : List Shelf) (i : ℕ) (x y : Shelf) (lt : i < length xs) where
  -- the caches of the shelf at an index
  family-inside : i < length (map rules_on xs)
  family-inside = subst (λ n. i < n) (sym (length-map xs rules_on)) lt

  -- seats stay where a shelf keeps its cells
  pub seats-kept : x ≡ get_or xs i x → KeepsCells (rules_on x) (rules_on y)
      → Keeps (map rules_on xs) (map rules_on (set xs i y))
  seats-kept at keeps = λ r s own.
      let t = map rules_on xs in
      let here : get_or t i [] ≡ rules_on x =
      get_or-map rules_on xs i x [] lt ∙ ap rules_on (sym at) in
      subst (λ (l : SeatRules). IsSeatOf l r s) (sym (map-set rules_on xs i y))
      (seat-of (set t i (rules_on y)) r s (inside-set t i s.family (rules_on y) own.family)
      (at-set (λ l. IsCellOf l r s.cell) t i s.family (rules_on y) [] family-inside
      (λ old. keeps r s.cell (subst (λ l. IsCellOf l r s.cell) here old))
      (cell-of t r s own)))

  -- the seat of a cell of the shelf
  pub seat-on : (g : Geometry) (p : Policy) (cell : ℕ) → ShelfSuits g p x
      → IsCellOf (rules_on y) (rules_from g x.policy) cell
      → IsSeatOf (map rules_on (set xs i y)) (rules_from g p) (record { family = i; cell = cell })
  seat-on g p cell suits found =
      let t = map rules_on xs in
      let r = rules_from g p in
      let own = subst (λ (q : Policy). IsCellOf (rules_on y) (rules_from g q) cell) suits.policy
      found in
      subst (λ (l : SeatRules). IsSeatOf l r (record { family = i; cell = cell }))
      (sym (map-set rules_on xs i y))
      (seat-of (set t i (rules_on y)) r (record { family = i; cell = cell })
      (inside-set t i i (rules_on y) family-inside)
      (at-changed (λ l. IsCellOf l r cell) t i (rules_on y) [] family-inside own))

-- a seat of a cache is one of those whose rules these are, and stays one
pub seat-there : {t : SeatRules} {r : Rules} {s : Seat} → IsSeatOf t r s → IsSeatIn t s
seat-there own = record { family = own.family; cell = own.cell }

pub seat-stays : (t u : SeatRules) → Keeps t u → (s : Seat) → IsSeatIn t s → IsSeatIn u s
seat-stays t u keeps s own = seat-there
    (keeps (rules_of_seat t s) s (record { family = own.family; cell = own.cell; rules = refl }))
