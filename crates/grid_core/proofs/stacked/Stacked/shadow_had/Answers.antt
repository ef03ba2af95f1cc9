use Rattle.std.proofs.Common.{ltb, not, sym, ap, ◌∙◌}
use Rattle.std.proofs.lemmas.List.{get_or-map}
use Rattle.cache_core.specs.Kinds.{shadow_of}
use Rattle.cache_core.specs.Residents.{hits, renewals}
use Rattle.grid_core.specs.Cells.{shape_rules}
use Rattle.grid_core.specs.StackedCells.{stacked_rules}
use Rattle.grid_core.specs.Written.{no_rules}
use Rattle.grid_core.proofs.Placed.{shape-there}
use Rattle.grid_core.proofs.stacked.Stacked.shadow_had.Goals as goal

pub returns : goal.returns
unfolding stacked_rules
returns c = λ h x answered.
    let old = c.args.self.now in
    let xs = old.shapes.items in
    let i = c.args.index in
    let v = c.index.result.now in
    let lt = shape-there old c.requires in
    ap (λ s. not (ltb s.rank old.prior.level)) c.index.ensures
    ∙ (answered.prior i v lt).far
    ∙ ap (λ r. hits (shadow_of r) (renewals (shadow_of r) h) x)
    (sym (get_or-map shape_rules xs i v no_rules lt))
