use Rattle.std.proofs.Common.{◌<◌, length, sym, ap, subst, ◌∙◌}
use Rattle.std.proofs.lemmas.List.{get_or-map}
use Rattle.cache_core.specs.Counts.{none_by_class}
use Rattle.grid_core.specs.declared.cells.Shape.{Shape}
use Rattle.grid_core.specs.Cells.{shape_rules}
use Rattle.grid_core.specs.FullyAssociative.{shadow_misses}
use Rattle.grid_core.specs.Shadows.{far_in, shadow_sizes}
use Rattle.grid_core.specs.StackedCells.{stacked_rules, stacked_shadow_misses}
use Rattle.grid_core.specs.Written.{no_rules}
use Rattle.grid_core.proofs.Placed.{shape-there}
use Rattle.grid_core.proofs.StackBounds.{within-events}
use Rattle.grid_core.proofs.stacked.Stacked.shadow_misses.Goals as goal

pub misses-requires-clause-inside : goal.misses-requires-clause-inside
unfolding stacked_rules
misses-requires-clause-inside c =
    let old = c.args.self.now in
    subst (λ (s : Shape). s.rank < length (shadow_sizes old.shadows)) (sym c.index.ensures)
    (old.ranked c.args.index c.index.result.now (shape-there old c.requires)).inside

pub misses-requires-clause-within : goal.misses-requires-clause-within
misses-requires-clause-within c = within-events c.args.self.now c.args.self.now.leveled

pub returns-clause-kept : goal.returns-clause-kept
unfolding stacked_rules stacked_shadow_misses
returns-clause-kept c =
    let old = c.args.self.now in
    let i = c.args.index in
    let v = c.index.result.now in
    let lt = shape-there old c.requires in
    c.misses.ensures ∙ ap (λ (s : Shape). far_in old.shadows s.rank) c.index.ensures
    ∙ sym (get_or-map (λ (s : Shape). far_in old.shadows s.rank) old.shapes.items i v none_by_class
    lt)

pub returns-clause-counted : goal.returns-clause-counted
unfolding stacked_rules
returns-clause-counted c = λ blocks h e.
    let old = c.args.self.now in
    let i = c.args.index in
    let v = c.index.result.now in
    let lt = shape-there old c.requires in
    c.misses.ensures ∙ ap (λ (s : Shape). far_in old.shadows s.rank) c.index.ensures
    ∙ e.state.far i v lt
    ∙ ap (λ r. shadow_misses r h) (sym (get_or-map shape_rules old.shapes.items i v no_rules lt))
