use Rattle.std.proofs.Common.{sym, ap, ◌∙◌}
use Rattle.cache_core.specs.Counts.{counts_of}
use Rattle.cache_core.specs.Parts.{outcome_of}
use Rattle.grid_core.specs.Shades.{ShadeHasHit}
use Rattle.grid_core.proofs.shade.Shade.serve.Goals as goal

pub returns-clause-reached : goal.returns-clause-reached
unfolding ShadeHasHit
returns-clause-reached c = λ h e.
    let same = sym c.serve.ensures.rules in
    record {
      holds = c.in-Ok.ensures.holds h e.holds;
      hit = (c.in-Ok.ensures.served h e.holds).hit
          ∙ ap (λ r. (outcome_of r h c.args.access).hit) same;
      counted = e.counted ∙ ap (λ r. (counts_of r h).misses) same;
    }
