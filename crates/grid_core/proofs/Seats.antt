-- Seats, while more caches join those that were planned.
use Rattle.std.proofs.Common.{◌≡◌, ℕ, suc, ◌*◌, ◌<◌, ◌≤◌, ◌++◌, ◌∷◌, [], true, false, List}
use Rattle.std.proofs.Common.{length, get_or, map, refl, sym, ap, subst, ◌∙◌, arith}
use Rattle.std.specs.List.{All}
use Rattle.std.proofs.lemmas.List.{append-nil, length-append, get_or_append_left}
use Rattle.std.proofs.lemmas.List.{map-append, length-map, get_or-map}
use Rattle.std.proofs.lemmas.List.Elements.{All-push}
use Rattle.std.proofs.Math.Seq.{get_or-append_seam}
use Rattle.cache_core.specs.declared.geometry.Geometry.{Geometry}
use Rattle.cache_core.specs.declared.policy.Policy.{Policy}
use Rattle.cache_core.specs.Geometry.{bsize_of, sets_of, assoc_of, blocks_of}
use Rattle.cache_core.specs.History.{History, Rules}
use Rattle.cache_core.specs.Kinds.{shadow_of}
use Rattle.cache_core.specs.Policy.{is_fifo}
use Rattle.cache_core.specs.Standing.{rules_from}
use Rattle.cache_core.specs.Lists.{IsBeginning}
use Rattle.grid_core.specs.declared.places.Place.{Place}
use Rattle.grid_core.specs.declared.places.Place.TheVariants.{Together, Apart}
use Rattle.grid_core.specs.declared.places.Seat.{Seat}
use Rattle.grid_core.specs.Places.{IsPlace, rules_placed, shadow_placed, list_placed, IsSeated}
use Rattle.grid_core.specs.Places.{planned_rules}
use Rattle.grid_core.specs.Plans.{IsAsLarge}
use Rattle.grid_core.specs.Standing.{stack_rules}
use Rattle.grid_core.specs.Wholes.{IsWholeOf, IsLruOf}
use Rattle.grid_core.proofs.Geometries.{make, sets-blocks}
use Rattle.grid_core.specs.Shading.{IsShaded}
use Rattle.grid_core.specs.Written.{no_rules, rules_at_index, written_by}

-- lists that grow

pub begins-same : {X : Type 0} (xs : List X) → IsBeginning xs xs
begins-same xs = ([], sym (append-nil xs))

pub begins-push : {X : Type 0} (xs ys : List X) (x : X) → ys ≡ xs ++ x ∷ [] → IsBeginning xs ys
begins-push xs ys x is = (x ∷ [], is)

pub begins-map : {X Y : Type 0} (f : X → Y) (xs ys : List X) → IsBeginning xs ys
    → IsBeginning (map f xs) (map f ys)
begins-map f xs ys a = (map f a.0, ap (map f) a.1 ∙ map-append f xs a.0)

longer : {X : Type 0} (xs ys : List X) → IsBeginning xs ys → length xs ≤ length ys
longer xs ys a = let len = ap length a.1 ∙ length-append xs a.0 in omega arith

rules-longer : (rs rs' : List Rules) → IsBeginning rs rs' → (i : ℕ) → i < length rs
    → rules_at_index rs' i ≡ rules_at_index rs i
rules-longer rs rs' a i lt = ap (λ l. rules_at_index l i) a.1
    ∙ get_or_append_left rs a.0 no_rules i lt

module _ (rs rs' ss ss' : List Rules) (a : IsBeginning rs rs') (b : IsBeginning ss ss') where
  place-longer : (p : Place) → IsPlace (length rs) (length ss) p
      → IsPlace (length rs') (length ss') p
  place-longer (Together i) lt = let le = longer rs rs' a in omega arith
  place-longer (Apart i) lt = let le = longer ss ss' b in omega arith

  placed-longer : (p : Place) → IsPlace (length rs) (length ss) p
      → rules_placed rs' ss' p ≡ rules_placed rs ss p
  placed-longer (Together i) lt = rules-longer rs rs' a i lt
  placed-longer (Apart i) lt = rules-longer ss ss' b i lt

  shadow-longer : (p : Place) → IsPlace (length rs) (length ss) p
      → shadow_placed rs' ss' p ≡ shadow_placed rs ss p
  shadow-longer (Together i) lt = ap shadow_of (rules-longer rs rs' a i lt)
  shadow-longer (Apart i) lt = rules-longer ss ss' b i lt

  -- a shadow stays where it is
  pub shaded-longer : (s : Place × Rules) → IsShaded rs ss s → IsShaded rs' ss' s
  shaded-longer s own = record {
    there = place-longer s.0 own.there;
    shadow = shadow-longer s.0 own.there ∙ own.shadow;
    some = (let le = longer rs rs' a in let some = own.some in omega arith);
    same_bsize = ap (λ (r : Rules). r.bsize) (rules-longer rs rs' a 0 own.some) ∙ own.same_bsize;
  }

-- a seat stays one
pub seated-longer : (rs rs' ss ss' ts ts' : List Rules) → IsBeginning rs rs' → IsBeginning ss ss'
    → IsBeginning ts ts' → (p : Policy) (s : Seat) → IsSeated p rs ss ts s
    → IsSeated p rs' ss' ts' s
seated-longer rs rs' ss ss' ts ts' a b t p s own = record {
  cell_there = place-longer rs rs' ss ss' a b s.cell own.cell_there;
  cell = placed-longer rs rs' ss ss' a b s.cell own.cell_there ∙ own.cell;
  shadow_there = place-longer rs rs' ts ts' a t s.shadow own.shadow_there;
  shadow = shadow-longer rs rs' ts ts' a t s.shadow own.shadow_there ∙ own.shadow;
}

-- an LRU cache that allocates at writes is one with a stack order
pub stack-policy : (g : Geometry) (p : Policy) → is_fifo p ≡ false → p.walloc ≡ true
    → stack_rules g p.wback ≡ rules_from g p
unfolding make
stack-policy g p lru walloc =
    ap (λ f. make (bsize_of g) (sets_of g) (assoc_of g) (blocks_of g) f p.wback true) (sym lru)
    ∙ ap (make (bsize_of g) (sets_of g) (assoc_of g) (blocks_of g) (is_fifo p) p.wback)
    (sym walloc)

-- caches of as many blocks that allocate at writes have the same shadow
pub stack-shadow : (d g : Geometry) (p : Policy) → bsize_of d ≡ bsize_of g
    → blocks_of d ≡ blocks_of g → p.walloc ≡ true
    → shadow_of (stack_rules d p.wback) ≡ shadow_of (rules_from g p)
unfolding make
stack-shadow d g p bytes blocks walloc =
    ap (λ b. make b 1 (blocks_of d) (blocks_of d) false p.wback true) bytes
    ∙ ap (λ n. make (bsize_of g) 1 n n false p.wback true) blocks
    ∙ ap (make (bsize_of g) 1 (blocks_of g) (blocks_of g) false p.wback) (sym walloc)

-- where there is one set, it has all blocks
one-set : (w : Geometry) → sets_of w ≡ 1 → assoc_of w ≡ blocks_of w
one-set w one =
    let all : 1 * assoc_of w ≡ blocks_of w = ap (λ s. s * assoc_of w) (sym one) ∙ sets-blocks w in
    omega arith

-- the shadow is the fully associative LRU cache of as many blocks
pub whole-shadow : (w g : Geometry) (q p : Policy) → IsWholeOf w g → IsLruOf q p
    → rules_from w q ≡ shadow_of (rules_from g p)
unfolding make
whole-shadow w g q p whole lru =
    ap (λ b. make b (sets_of w) (assoc_of w) (blocks_of w) (is_fifo q) q.wback q.walloc)
    whole.same_bsize
    ∙ ap (λ s. make (bsize_of g) s (assoc_of w) (blocks_of w) (is_fifo q) q.wback q.walloc)
    whole.one
    ∙ ap (λ a. make (bsize_of g) 1 a (blocks_of w) (is_fifo q) q.wback q.walloc)
    (one-set w whole.one)
    ∙ ap (λ n. make (bsize_of g) 1 n n (is_fifo q) q.wback q.walloc) whole.same_blocks
    ∙ ap (λ f. make (bsize_of g) 1 (blocks_of g) (blocks_of g) f q.wback q.walloc) lru.lru
    ∙ ap (λ b. make (bsize_of g) 1 (blocks_of g) (blocks_of g) false b q.walloc) lru.same_wback
    ∙ ap (make (bsize_of g) 1 (blocks_of g) (blocks_of g) false p.wback) lru.same_walloc

-- what a flush writes back at a place
pub written-placed : (h : History) (rs ss : List Rules) (p : Place)
    → IsPlace (length rs) (length ss) p
    → list_placed (map (written_by h) rs) (map (written_by h) ss) p
    ≡ written_by h (rules_placed rs ss p)
written-placed h rs ss (Together i) lt = get_or-map (written_by h) rs i no_rules [] lt
written-placed h rs ss (Apart i) lt = get_or-map (written_by h) ss i no_rules [] lt

-- at the places of all seats
pub written-all : (h : History) (rs ss : List Rules) (seats : List Seat)
    → All (λ s. IsPlace (length rs) (length ss) s.cell) seats
    → map (λ s. list_placed (map (written_by h) rs) (map (written_by h) ss) s.cell) seats
    ≡ map (λ s. written_by h (rules_placed rs ss s.cell)) seats
written-all h rs ss [] all = refl
written-all h rs ss (s ∷ seats) all =
    ap (λ l. l ∷ map (λ z. list_placed (map (written_by h) rs) (map (written_by h) ss) z.cell)
    seats) (written-placed h rs ss s.cell (all 0 s (omega arith)))
    ∙ ap (λ l. written_by h (rules_placed rs ss s.cell) ∷ l)
    (written-all h rs ss seats (λ k d lt. all (suc k) d (omega arith)))

-- in the words of the rules of an engine
pub written-seated : (h : History) (p : Policy) (rs ss ts : List Rules) (seats : List Seat)
    → All (IsSeated p rs ss ts) seats
    → map (λ s. written_by h (rules_placed rs ss s.cell)) seats
    ≡ map (written_by h) (map (λ s. rules_from s.geometry p) seats)
written-seated h p rs ss ts [] all = refl
written-seated h p rs ss ts (s ∷ seats) all =
    ap (λ r. written_by h r ∷ map (λ z. written_by h (rules_placed rs ss z.cell)) seats)
    (all 0 s (omega arith)).cell
    ∙ ap (λ l. written_by h (rules_from s.geometry p) ∷ l)
    (written-seated h p rs ss ts seats (λ k d lt. all (suc k) d (omega arith)))

-- what joins a list last

pub last-inside : (rs rs' : List Rules) (r : Rules) (i : ℕ) → rs' ≡ rs ++ r ∷ [] → i ≡ length rs
    → i < length rs'
last-inside rs rs' r i is at = let len = ap length is ∙ length-append rs (r ∷ []) in omega arith

pub last-is : (rs rs' : List Rules) (r : Rules) (i : ℕ) → rs' ≡ rs ++ r ∷ [] → i ≡ length rs
    → rules_at_index rs' i ≡ r
last-is rs rs' r i is at = ap (λ l. rules_at_index l i) is ∙ ap (rules_at_index (rs ++ r ∷ [])) at
    ∙ get_or-append_seam rs r [] no_rules

-- a geometry of as many blocks gives the shadow of a cache whose writes allocate
pub shadow-as-large : (gs : List Geometry) (g : Geometry) (p : Policy) (i : ℕ) → IsAsLarge gs g i
    → p.walloc ≡ true
    → shadow_of (rules_at_index (planned_rules p.wback gs) i) ≡ shadow_of (rules_from g p)
shadow-as-large gs g p i large walloc =
    ap shadow_of (get_or-map (λ d. stack_rules d p.wback) gs i g no_rules large.inside)
    ∙ stack-shadow (get_or gs i g) g p (large.same_bsize g) (large.same_blocks g) walloc

-- a seat of a cache that joins those that are served together
pub seated-together : (g : Geometry) (p : Policy) (gs gs' : List Geometry) (ss ts : List Rules)
    (s : Seat) → is_fifo p ≡ false → p.walloc ≡ true → gs' ≡ gs ++ g ∷ [] → s.geometry ≡ g
    → s.cell ≡ Together (length gs) → s.shadow ≡ Together (length gs)
    → IsSeated p (planned_rules p.wback gs') ss ts s
seated-together g p gs gs' ss ts s lru walloc is geometry cell shadow =
    let f = λ (d : Geometry). stack_rules d p.wback in
    let rs = map f gs in
    let rs' = map f gs' in
    let joined : rs' ≡ rs ++ f g ∷ [] = ap (map f) is ∙ map-append f gs (g ∷ []) in
    let last : length gs ≡ length rs = sym (length-map gs f) in
    let inside = last-inside rs rs' (f g) (length gs) joined last in
    let at : rules_at_index rs' (length gs) ≡ rules_from g p =
    last-is rs rs' (f g) (length gs) joined last ∙ stack-policy g p lru walloc in
    record {
      cell_there = subst (λ q. IsPlace (length rs') (length ss) q) (sym cell) inside;
      cell = ap (rules_placed rs' ss) cell ∙ at ∙ ap (λ d. rules_from d p) (sym geometry);
      shadow_there = subst (λ q. IsPlace (length rs') (length ts) q) (sym shadow) inside;
      shadow = ap (shadow_placed rs' ts) shadow ∙ ap shadow_of at
          ∙ ap (λ d. shadow_of (rules_from d p)) (sym geometry);
    }

-- a seat of a cache of its own
pub seated-apart : (g : Geometry) (p : Policy) (rs ss ss' ts : List Rules) (cell : ℕ)
    (shadow : Place) → ss' ≡ ss ++ rules_from g p ∷ [] → cell ≡ length ss
    → IsPlace (length rs) (length ts) shadow
    → shadow_placed rs ts shadow ≡ shadow_of (rules_from g p)
    → IsSeated p rs ss' ts (record { geometry = g; cell = Apart cell; shadow = shadow })
seated-apart g p rs ss ss' ts cell shadow is at there is-shadow = record {
  cell_there = last-inside ss ss' (rules_from g p) cell is at;
  cell = last-is ss ss' (rules_from g p) cell is at;
  shadow_there = there;
  shadow = is-shadow;
}

-- its shadow joins the others
pub shaded-apart : (b : ℕ) (g : Geometry) (p : Policy) (gs : List Geometry) (ts : List Rules)
    (ps ps' : List (Place × Rules)) (shadow : Place) → ps' ≡ ps ++ (shadow, rules_from g p) ∷ []
    → bsize_of g ≡ b → All (λ d. bsize_of d ≡ b) gs → 0 < length gs
    → IsPlace (length (planned_rules p.wback gs)) (length ts) shadow
    → shadow_placed (planned_rules p.wback gs) ts shadow ≡ shadow_of (rules_from g p)
    → All (IsShaded (planned_rules p.wback gs) ts) ps
    → All (IsShaded (planned_rules p.wback gs) ts) ps'
shaded-apart b g p gs ts ps ps' shadow is one all some there is-shadow old =
    let f = λ (d : Geometry). stack_rules d p.wback in
    let P = IsShaded (map f gs) ts in
    subst (All P) (sym is) (All-push P ps (shadow, rules_from g p) old (record {
      there = there;
      shadow = is-shadow;
      some = subst (λ n. 0 < n) (sym (length-map gs f)) some;
      same_bsize = ap (λ (r : Rules). r.bsize) (get_or-map f gs 0 g no_rules some)
          ∙ all 0 g some ∙ sym one;
    }))

-- a geometry of the block size joins others of the block size
pub joins-all : (b : ℕ) (gs gs' : List Geometry) (g : Geometry) → gs' ≡ gs ++ g ∷ []
    → bsize_of g ≡ b → All (λ d. bsize_of d ≡ b) gs → All (λ d. bsize_of d ≡ b) gs'
joins-all b gs gs' g is one all = subst (All (λ d. bsize_of d ≡ b)) (sym is)
    (All-push (λ d. bsize_of d ≡ b) gs g all one)
