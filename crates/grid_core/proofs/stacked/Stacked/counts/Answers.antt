use Rattle.std.proofs.Common.{◌≡◌, ℕ, ◌<◌, ◌+◌, ◌^◌, List, get_or, length, map, sym, ap, subst}
use Rattle.std.proofs.Common.{◌∙◌, arith}
use Rattle.std.proofs.lemmas.List.{get_or-map, length-map}
use Rattle.cache_core.specs.Counts.{counts_of, no_counts}
use Rattle.grid_core.specs.declared.cells.Shape.{Shape}
use Rattle.grid_core.specs.declared.stack.Stack.{Stack}
use Rattle.grid_core.specs.declared.stacked.Stacked.{Stacked}
use Rattle.grid_core.specs.Cells.{IsPlacedOn, shape_rules}
use Rattle.grid_core.specs.Shadows.{shadow_sizes}
use Rattle.grid_core.specs.StackedCells.{stacked_counts, stacked_rules}
use Rattle.grid_core.specs.Standing.{IsCountedIn, IsWithinStack, StackStandsFor, rules_of_rows}
use Rattle.grid_core.specs.Standing.{told_in}
use Rattle.grid_core.specs.State.{IsRanked, counts_at}
use Rattle.grid_core.specs.Written.{no_rules}
use Rattle.grid_core.proofs.CountsOf.{counts-are, kept-here}
use Rattle.grid_core.proofs.StackBounds.{within-stack}
use Rattle.grid_core.proofs.Placed.{inside-at, on-at, shape-there}
use Rattle.grid_core.proofs.Sizes.{rising-is}
use Rattle.grid_core.proofs.stacked.Stacked.counts.Goals as goal

module _ (old : Stacked) {i : ℕ} (below : i < length (stacked_rules old)) {v : Shape}
    (shape-is : v ≡ get_or old.shapes.items i v) {w : Stack}
    (rows-are : w ≡ get_or old.stacks.items v.stack w) where
  abbrev stacks : List Stack
  stacks = old.stacks.items

  abbrev shapes : List Shape
  shapes = old.shapes.items

  abbrev sizes : List ℕ
  sizes = shadow_sizes old.shadows

  lt : i < length shapes
  lt = shape-there old below

  inside : v.stack < length stacks
  inside = inside-at stacks shapes old.placed i lt v shape-is

  on : IsPlacedOn (rules_of_rows w) v
  on = on-at stacks shapes old.placed i lt v shape-is w rows-are

  ranked : IsRanked sizes old.geometry v
  ranked = subst (IsRanked sizes old.geometry) (sym shape-is) (old.ranked i v lt)

  told : told_in w ≡ length sizes + 1
  told =
      let long : v.stack < length (map told_in stacks) = omega (
        arith,
        inside,
        length-map stacks told_in,
      ) in
      ap told_in rows-are ∙ sym (get_or-map told_in stacks v.stack w 0 inside)
      ∙ old.told v.stack 0 long

pub shape_counts-requires-clause-ways : goal.shape_counts-requires-clause-ways
shape_counts-requires-clause-ways c =
    (on c.args.self.now c.requires c.index-shape.ensures c.index.ensures).fits

pub shape_counts-requires-clause-some : goal.shape_counts-requires-clause-some
shape_counts-requires-clause-some c =
    (on c.args.self.now c.requires c.index-shape.ensures c.index.ensures).some

pub shape_counts-requires-clause-rank : goal.shape_counts-requires-clause-rank
shape_counts-requires-clause-rank c =
    let old = c.args.self.now in
    let levels = told old c.requires c.index-shape.ensures c.index.ensures in
    let low = (ranked old c.requires c.index-shape.ensures c.index.ensures).inside in
    omega arith

pub shape_counts-requires-clause-few : goal.shape_counts-requires-clause-few
shape_counts-requires-clause-few c =
    let old = c.args.self.now in
    let low = (ranked old c.requires c.index-shape.ensures c.index.ensures).inside in
    let small = old.small in
    omega arith

pub shape_counts-requires-clause-within : goal.shape_counts-requires-clause-within
shape_counts-requires-clause-within c =
    let old = c.args.self.now in
    let v = c.index-shape.result.now in
    let w = c.index.result.now in
    let few = old.few in
    subst (IsWithinStack (2 ^ 44)) (sym c.index.ensures)
    (within-stack old.served (2 ^ 44) (omega arith) (get_or old.stacks.items v.stack w)
    (old.bounded v.stack w (inside old c.requires c.index-shape.ensures c.index.ensures)))

pub returns-clause-kept : goal.returns-clause-kept
unfolding stacked_counts
returns-clause-kept c =
    let old = c.args.self.now in
    let v = c.index-shape.result.now in
    let w = c.index.result.now in
    let rows = old.stacks.items in
    c.shape_counts.ensures
    ∙ kept-here rows v w c.index.ensures
    (inside old c.requires c.index-shape.ensures c.index.ensures) old.alike
    ∙ ap (counts_at old.alike rows) c.index-shape.ensures
    ∙ sym (get_or-map (counts_at old.alike rows) old.shapes.items c.args.index v no_counts
    (lt old c.requires c.index-shape.ensures c.index.ensures))

pub returns-clause-counted : goal.returns-clause-counted
unfolding stacked_rules
returns-clause-counted c = λ blocks h e.
    let old = c.args.self.now in
    let v = c.index-shape.result.now in
    let w = c.index.result.now in
    let levels = shadow_sizes old.shadows in
    let here = inside old c.requires c.index-shape.ensures c.index.ensures in
    c.shape_counts.ensures
    ∙ counts-are old.geometry levels (rising-is levels old.rises) w v
    (ranked old c.requires c.index-shape.ensures c.index.ensures)
    (on old c.requires c.index-shape.ensures c.index.ensures) h
    (subst (IsCountedIn levels h) (sym c.index.ensures) (e.state.counted v.stack w here))
    (subst (λ t. StackStandsFor t h) (sym c.index.ensures) (e.state.rows v.stack w here))
    old.alike e.alike
    ∙ ap (λ s. counts_of (shape_rules s) h) c.index-shape.ensures
    ∙ ap (λ r. counts_of r h) (sym (get_or-map shape_rules old.shapes.items c.args.index v no_rules
    (lt old c.requires c.index-shape.ensures c.index.ensures)))
