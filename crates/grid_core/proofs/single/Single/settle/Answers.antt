use Rattle.std.proofs.Common.{◌≡◌, ◌+◌, true, is_some, sym, ap, subst, ◌∙◌, arith}
use Rattle.cache_core.specs.Counting.{AreWithin, with_access}
use Rattle.cache_core.specs.Parts.{one_if, outcome_of}
use Rattle.cache_core.proofs.CacheFacts.{AreWithin-with_access}
use Rattle.cache_core.proofs.Steps.{counts-step}
use Rattle.grid_core.specs.Singles.{single_rules, IsPending}
use Rattle.grid_core.proofs.single.Single.settle.Goals as goal

pub invariant_of-self : goal.invariant_of-self
unfolding IsPending
invariant_of-self c =
    let old = c.args.self.now in
    let waits : old.pending ≡ true = c.requires.1.1 in
    let o = c.outcome-outcome.result in
    record {
      bounded = subst (λ k. AreWithin k (old.settled + 1)) (sym c.add_access.ensures)
          (AreWithin-with_access c.args.access o old.counts old.settled old.bounded);
      charged =
          (let counted : c.add_access.new.self.written_back
          ≡ one_if (is_some old.served.back) + old.counts.written_back =
          ap (λ k. k.written_back) c.add_access.ensures
          ∙ ap (λ o. one_if (is_some o.back) + old.counts.written_back)
          c.outcome-outcome.ensures.made in
          let before = rw waits at old.charged in
          omega arith);
    }

pub returns-clause-stands : goal.returns-clause-stands
returns-clause-stands c = λ h e known.
    let old = c.args.self.now in
    let x = c.args.access in
    record {
      holds = e.holds;
      counted = c.add_access.ensures
          ∙ ap (λ o. with_access x o old.counts) (c.outcome-outcome.ensures.is h e.served known)
          ∙ ap (with_access x (outcome_of (single_rules old) h x)) e.counted
          ∙ counts-step (single_rules old) h x;
    }

pub returns-clause-answer : goal.returns-clause-answer
returns-clause-answer c = λ h e known. c.outcome-outcome.ensures.is h e.served known
