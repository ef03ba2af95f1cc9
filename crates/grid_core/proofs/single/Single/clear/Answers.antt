use Rattle.std.proofs.Common.{◌≡◌, ◌+◌, ◌*◌, ◌≤◌, ◌∷◌, false, sym, ap, subst, ◌∙◌, arith}
use Rattle.std.proofs.lemmas.List.{length-map}
use Rattle.cache_core.specs.Counting.{AreWithin, with_flush}
use Rattle.cache_core.specs.Counts.{counts_of}
use Rattle.cache_core.specs.Dirty.{dirty_blocks}
use Rattle.cache_core.specs.History.{flush}
use Rattle.cache_core.proofs.CacheFacts.{AreWithin-with_flush}
use Rattle.cache_core.proofs.Steps.{flush-counts}
use Rattle.grid_core.specs.Singles.{single_rules, HasSettled}
use Rattle.grid_core.proofs.single.Single.clear.Goals as goal

pub invariant_of-self : goal.invariant_of-self
unfolding HasSettled
invariant_of-self c =
    let old = c.args.self.now in
    let idle : old.pending ≡ false = c.requires.step.1.1 in
    let few = c.requires.few in
    let before = rw idle at old.charged in
    let clean = c.clear.ensures.clean in
    let fits : old.counts.written_back + c.args.written ≤ old.settled = omega arith in
    record {
      bounded = subst (λ k. AreWithin k (old.settled + 1)) (sym c.add_flush.ensures)
          (AreWithin-with_flush c.args.written old.counts old.settled fits old.bounded);
      charged =
          (let counted : c.add_flush.new.self.written_back
          ≡ old.counts.written_back + c.args.written =
          ap (λ k. k.written_back) c.add_flush.ensures in
          rw idle (omega arith));
    }

pub returns-clause-stands : goal.returns-clause-stands
returns-clause-stands c = λ h e written.
    let old = c.args.self.now in
    let r = single_rules old in
    record {
      holds = c.clear.ensures.holds h;
      counted = c.add_flush.ensures ∙ ap (with_flush c.args.written) e.counted
          ∙ flush-counts r h c.args.written
          (written ∙ length-map (dirty_blocks r h) (λ b. b * r.bsize))
          ∙ ap (λ q. counts_of q (flush ∷ h)) (sym c.clear.ensures.rules);
    }
