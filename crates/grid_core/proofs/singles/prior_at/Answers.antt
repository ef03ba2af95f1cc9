use Rattle.std.proofs.Common.{ap, ◌∙◌}
use Rattle.grid_core.specs.Shading.{hits_in}
use Rattle.grid_core.specs.StackedCells.{stacked_rules}
use Rattle.grid_core.specs.Written.{rules_at_index}
use Rattle.grid_core.proofs.Shadings.{known-size}
use Rattle.grid_core.proofs.singles.prior_at.Goals as goal

pub returns : goal.returns
returns c = λ h x answered hit r shaded. record {
  referenced = c.knew.ensures h x answered
      ∙ known-size (rules_at_index (stacked_rules c.args.stacked.now) 0) r shaded.same_bsize h x;
  in_shadow = c.shadow_had.ensures h x answered hit ∙ ap (hits_in h x) shaded.shadow;
}
