use Rattle.std.proofs.Common.{not, sym, ap, subst, ◌+◌, ◌∙◌}
use Rattle.cache_core.specs.Counting.{IsWithin, with_one}
use Rattle.cache_core.specs.Parts.{outcome_of}
use Rattle.cache_core.proofs.CacheFacts.{IsWithin-with_one}
use Rattle.cache_core.proofs.Steps.{counts-step}
use Rattle.grid_core.specs.Shades.{shade_rules, ShadeHasHit}
use Rattle.grid_core.proofs.shade.Shade.settle.Goals as goal

pub invariant_of-self : goal.invariant_of-self
invariant_of-self c =
    let old = c.args.self.now in
    record {
      made = old.made;
      bounded = subst (λ n. IsWithin n (old.counted + 1)) (sym c.count.ensures)
          (IsWithin-with_one c.args.access (not old.hit) old.misses old.counted old.bounded);
    }

pub returns-clause-stands : goal.returns-clause-stands
unfolding ShadeHasHit
returns-clause-stands c = λ h e.
    let old = c.args.self.now in
    let x = c.args.access in
    let r = shade_rules old in
    record {
      holds = e.holds;
      counted = c.count.ensures
          ∙ ap (λ t. with_one x (not t) old.misses) e.hit
          ∙ ap (with_one x (not (outcome_of r h x).hit)) e.counted
          ∙ ap (λ n. n.misses) (counts-step r h x);
    }
