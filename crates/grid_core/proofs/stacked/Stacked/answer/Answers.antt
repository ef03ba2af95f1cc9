use Rattle.std.proofs.Common.{sym, ap, subst, ◌∙◌}
use Rattle.std.proofs.lemmas.List.{get_or-map}
use Rattle.cache_core.specs.Parts.{outcome_of}
use Rattle.grid_core.specs.Cells.{KnowsPrior, shape_rules}
use Rattle.grid_core.specs.StackedCells.{stacked_rules}
use Rattle.grid_core.specs.Written.{no_rules}
use Rattle.grid_core.proofs.Placed.{placed-at, shape-there}
use Rattle.grid_core.proofs.stacked.Stacked.answer.Goals as goal

pub answer_in-requires : goal.answer_in-requires
unfolding stacked_rules
answer_in-requires c =
    let old = c.args.self.now in
    placed-at old.stacks.items old.shapes.items old.placed c.args.index
    (shape-there old c.requires) c.index-shape.result.now c.index-shape.ensures

pub returns : goal.returns
unfolding stacked_rules
returns c = λ h x answered.
    let old = c.args.self.now in
    let xs = old.shapes.items in
    let i = c.args.index in
    let v = c.index-shape.result.now in
    let lt = shape-there old c.requires in
    c.answer_in.ensures h x (answered.moved c.if-self.false)
    (subst (λ s. KnowsPrior s h x old.prior) (sym c.index-shape.ensures)
    (answered.prior i v lt))
    answered.write
    ∙ ap (λ s. outcome_of (shape_rules s) h x) c.index-shape.ensures
    ∙ ap (λ r. outcome_of r h x) (sym (get_or-map shape_rules xs i v no_rules lt))
