-- The shapes of cells, and the rows that they name.
use Rattle.std.proofs.Common.{◌≡◌, ℕ, zero, suc, ◌*◌, ◌<◌, Bool, false, List, [], ◌∷◌}
use Rattle.std.proofs.Common.{length, get_or, ltb, map}
use Rattle.std.proofs.Common.{sym, ap, subst, ◌∙◌, arith}
use Rattle.std.specs.List.{All}
use Rattle.std.proofs.lemmas.List.{length-map, get_or-map}
use Rattle.cache_core.specs.declared.geometry.Geometry.{Geometry}
use Rattle.cache_core.specs.History.{Rules}
use Rattle.cache_core.specs.Geometry.{bsize_of, sets_of, assoc_of, blocks_of}
use Rattle.grid_core.specs.declared.cells.Shape.{Shape}
use Rattle.grid_core.specs.declared.stack.Stack.{Stack}
use Rattle.grid_core.specs.declared.stacked.Stacked.{Stacked}
use Rattle.grid_core.specs.Ways.{with_ways, IsStacked}
use Rattle.grid_core.specs.Standing.{RowsSuit, found_in, rules_of_rows, stack_rules}
use Rattle.grid_core.specs.Cells.{IsPlacedOn, IsPlacedAmong, hit_at, shape_rules}
use Rattle.grid_core.specs.Shapes.{IsSuitedShape}
use Rattle.grid_core.specs.StackedCells.{stacked_rules}
use Rattle.grid_core.proofs.Geometries.{make, sets-blocks}
use Rattle.grid_core.proofs.StackRules.{stacked}

-- the rules of the rows at an index
pub rules-at : (stacks : List Stack) (j : ℕ) (v : Stack) (s : Shape) → v ≡ get_or stacks j v
    → j < length stacks → ((d : Rules) → IsPlacedOn (get_or (map rules_of_rows stacks) j d) s)
    → IsPlacedOn (rules_of_rows v) s
rules-at stacks j v s is lt on =
    subst (λ r. IsPlacedOn r s)
    (get_or-map rules_of_rows stacks j v (rules_of_rows v) lt
    ∙ ap rules_of_rows (sym is)) (on (rules_of_rows v))

-- a shape names rows that there are
pub names-rows : (stacks : List Stack) (s : Shape) → IsPlacedAmong (map rules_of_rows stacks) s
    → s.stack < length stacks
names-rows stacks s on = let in_all = on.inside in omega (arith, length-map stacks rules_of_rows)

at-map : (P : Rules → Type 0) (xs : List Stack) (i : ℕ) → i < length xs
    → ((d : Stack) → P (rules_of_rows (get_or xs i d))) → (e : Rules)
    → P (get_or (map rules_of_rows xs) i e)
at-map P [] i lt h e = absurd (omega arith)
at-map P (x ∷ xs) zero lt h e = h x
at-map P (x ∷ xs) (suc i) lt h e = at-map P xs i (omega arith) h e

suits-same : (r : Rules) → IsStacked r → (g : Geometry) (ways : ℕ) (wback : Bool)
    → RowsSuit r g ways wback → ways ≡ assoc_of g → with_ways ways r ≡ stack_rules g wback
unfolding make
suits-same r st g ways wback fit w =
    ap (λ t. make t r.sets ways (r.sets * ways) r.fifo r.wback r.walloc) fit.same_bsize
    ∙ ap (λ t. make (bsize_of g) t ways (t * ways) r.fifo r.wback r.walloc) fit.same_sets
    ∙ ap (λ t. make (bsize_of g) (sets_of g) t (sets_of g * t) r.fifo r.wback r.walloc) w
    ∙ ap (λ t. make (bsize_of g) (sets_of g) (assoc_of g) t r.fifo r.wback r.walloc) (sets-blocks g)
    ∙ ap (λ t. make (bsize_of g) (sets_of g) (assoc_of g) (blocks_of g) t r.wback r.walloc) st.lru
    ∙ ap (λ t. make (bsize_of g) (sets_of g) (assoc_of g) (blocks_of g) false t r.walloc)
    fit.same_wback
    ∙ ap (λ t. make (bsize_of g) (sets_of g) (assoc_of g) (blocks_of g) false wback t) st.allocates

-- rows that suit a shape serve its cache
pub suited-placed : (stacks : List Stack) (s : Shape) → IsSuitedShape stacks s
    → IsPlacedAmong (map rules_of_rows stacks) s
suited-placed stacks s own = record {
  inside = let lt = own.suited.inside in omega (arith, length-map stacks rules_of_rows);
  placed = at-map (λ r. IsPlacedOn r s) stacks s.stack own.suited.inside (λ d.
      let v = get_or stacks s.stack d in
      record {
        same = suits-same (rules_of_rows v) (stacked v) s.geometry s.ways s.wback
            (own.suited.suits d)
            own.ways;
        some = own.some;
        fits = (own.suited.suits d).fits;
      });
}

-- the index of a cache is that of its shape
pub shape-there : (e : Stacked) {i : ℕ} → i < length (stacked_rules e) → i < length e.shapes.items
unfolding stacked_rules
shape-there e lt = omega (arith, lt, length-map e.shapes.items shape_rules)

-- the shape at an index, and the rows that it names
module _ (stacks : List Stack) (shapes : List Shape)
    (placed : All (λ s. IsPlacedAmong (map rules_of_rows stacks) s) shapes) (i : ℕ)
    (lt : i < length shapes) (v : Shape) (is : v ≡ get_or shapes i v) where
  pub placed-at : IsPlacedAmong (map rules_of_rows stacks) v
  placed-at = subst (IsPlacedAmong (map rules_of_rows stacks)) (sym is) (placed i v lt)

  pub inside-at : v.stack < length stacks
  inside-at = names-rows stacks v placed-at

  pub on-at : (w : Stack) → w ≡ get_or stacks v.stack w → IsPlacedOn (rules_of_rows w) v
  on-at w here = rules-at stacks v.stack w v here inside-at placed-at.placed

-- whether the last access hit in the cache of a shape, by where the rows found its block
pub hit-here : (stacks : List Stack) (v : Shape) (w : Stack) → w ≡ get_or stacks v.stack w
    → v.stack < length stacks → hit_at (map found_in stacks) v ≡ ltb (found_in w) v.ways
hit-here stacks v w here inside = ap (λ n. ltb n v.ways)
    (get_or-map found_in stacks v.stack w 0 inside ∙ ap found_in (sym here))
