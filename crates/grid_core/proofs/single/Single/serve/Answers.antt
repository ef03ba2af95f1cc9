use Rattle.std.proofs.Common.{◌≡◌, false, sym, ap, subst, ◌∙◌, arith}
use Rattle.cache_core.specs.Counts.{counts_of}
use Rattle.cache_core.specs.Standing.{IsServed}
use Rattle.grid_core.specs.Singles.{HasSettled}
use Rattle.grid_core.proofs.single.Single.serve.Goals as goal

pub invariant_of-self-2 : goal.invariant_of-self-2
unfolding HasSettled
invariant_of-self-2 c =
    let old = c.args.self.now in
    let step = c.in-Ok.ensures.charged in
    let idle : old.pending ≡ false = c.requires.1.1 in
    record {
      bounded = old.bounded;
      charged = (let before = rw idle at old.charged in omega arith);
    }

pub returns-clause-reached : goal.returns-clause-reached
returns-clause-reached c = λ h e.
    let same = sym c.serve.ensures.rules in
    record {
      holds = c.in-Ok.ensures.holds h e.holds;
      served = subst (λ r. IsServed r h c.args.access c.in-Ok.served) same
          (c.in-Ok.ensures.served h e.holds);
      counted = e.counted ∙ ap (λ r. counts_of r h) same;
    }
