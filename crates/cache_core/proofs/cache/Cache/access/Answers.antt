use Rattle.std.proofs.Common.{◌≡◌, ◌+◌, ◌/◌, not, nat_eq, ◌||◌, ◌&&◌, ◌∷◌, is_some, sym, ap, subst}
use Rattle.std.proofs.Common.{◌∙◌, arith}
use Rattle.std.specs.HashSet.{contains}
use Rattle.cache_core.specs.History.{access, is_write}
use Rattle.cache_core.specs.Parts.{one_if, outcome_of}
use Rattle.cache_core.specs.Counts.{AddUp}
use Rattle.cache_core.specs.Counting.{AreWithin, with_access}
use Rattle.cache_core.specs.Row.{dirty_count}
use Rattle.cache_core.specs.Standing.{rules_of, rules_held, ways_held, served_of, counts_kept}
use Rattle.cache_core.specs.Standing.{has_failed, IsServed, IsKnown}
use Rattle.cache_core.proofs.CacheFacts.{AreWithin-with_access, KindsAddUp-with_access}
use Rattle.cache_core.proofs.AccessStep.{known-is, shadow-after, referenced-after}
use Rattle.cache_core.proofs.Steps.{outcome_of-hit, counts-step}
use Rattle.cache_core.proofs.Held.{holds-residents}
use Rattle.cache_core.proofs.SameRules.{stands-by}
use Rattle.cache_core.proofs.cache.Cache.access.Goals as goal

pub invariant_of-self : goal.invariant_of-self
unfolding rules_held ways_held
invariant_of-self c =
    let old = c.args.self.now in
    let same = ap dirty_count c.in_default.ensures.keeps in
    let before = old.charged in
    let none = ap one_if c.if-self.false in
    record {
      shadow_room = old.shadow_room ∙ sym (ap (λ r. r.blocks) c.serve.ensures.rules);
      bounded = old.bounded;
      sums = old.sums;
      charged = omega arith;
    }

-- the cache has failed: the blocks written back and the dirty ones may be one more than the events
-- that it has served
pub invariant_of-self-in_default-classify : goal.invariant_of-self-in_default-classify
unfolding rules_held ways_held
invariant_of-self-in_default-classify c =
    let old = c.args.self.now in
    let step = c.in-Ok.ensures.charged in
    let before = old.charged in
    let none = ap one_if c.if-self.false in
    record {
      shadow_room = c.classify.ensures.capacity ∙ old.shadow_room
          ∙ sym (ap (λ r. r.blocks) c.serve.ensures.rules);
      bounded = old.bounded;
      sums = old.sums;
      charged = omega arith;
    }

pub invariant_of-self-2 : goal.invariant_of-self-2
unfolding rules_held ways_held
invariant_of-self-2 c =
    let old = c.args.self.now in
    let made = c.outcome-outcome.ensures.made in
    let served = c.in-Ok.served in
    let prior = c.in-Ok-classify.prior in
    record {
      shadow_room = c.in-Ok-classify.ensures.capacity ∙ old.shadow_room
          ∙ sym (ap (λ r. r.blocks) c.serve.ensures.rules);
      bounded = subst (λ k. AreWithin k (old.served + 1)) (sym c.add_access.ensures)
          (AreWithin-with_access c.args.access c.outcome-outcome.result old.counts old.served
          old.bounded);
      sums = subst (λ k. AddUp k.misses k.compulsory k.capacity k.conflict)
          (sym (c.add_access.ensures ∙ ap (λ o. with_access c.args.access o old.counts) made))
          (KindsAddUp-with_access c.args.access (rules_held c.serve.new.self).wback
          (rules_held c.serve.new.self).walloc (is_write c.args.access) served.hit
          prior.referenced prior.in_shadow served.back old.counts old.sums);
      charged =
          (let counted : c.add_access.new.self.written_back
          ≡ one_if (is_some served.back) + old.counts.written_back =
          ap (λ k. k.written_back) c.add_access.ensures
          ∙ ap (λ o. one_if (is_some o.back) + old.counts.written_back) made in
          let step = c.in-Ok.ensures.charged in
          let before = old.charged in
          let none = ap one_if c.if-self.false in
          omega arith);
    }

pub returns-clause-outcome : goal.returns-clause-outcome
unfolding rules_of rules_held
returns-clause-outcome c = λ h st.
    let old = c.args.self.now in
    let x = c.args.access in
    let same = c.serve.ensures.rules in
    let block-is = c.block-block.ensures ∙ ap (λ r. x.addr / r.bsize) same in
    let served = c.in-Ok.ensures.served h st.holds in
    let referenced = rw block-is at c.in-Ok-classify.ensures.referenced in
    let shadow = rw block-is at c.in-Ok-classify.ensures.in_shadow in
    let g = old.contents.geometry in
    let known = known-is g old.contents.policy h x c.in-Ok.served.hit c.in-Ok-classify.prior _
    (served.hit ∙ outcome_of-hit (rules_of old) h x)
    (referenced ∙ ap (λ t. c.in-Ok.served.hit || t) (st.referenced _)) shadow st.shadow in
    subst (λ r. IsServed r h x c.in-Ok.served → IsKnown r h x c.in-Ok-classify.prior
    → c.outcome-outcome.result ≡ outcome_of r h x) same (c.outcome-outcome.ensures.is h) served
    known

stands-next : goal.returns-clause-stands
unfolding rules_of rules_held served_of counts_kept has_failed
stands-next c = λ h st.
    let old = c.args.self.now in
    let g = old.contents.geometry in
    let p = old.contents.policy in
    let x = c.args.access in
    let same = c.serve.ensures.rules in
    let block-is = c.block-block.ensures ∙ ap (λ r. x.addr / r.bsize) same in
    let load-is = c.may_load-load.ensures ∙ ap (λ r. not (is_write x) || r.walloc) same in
    let served = c.in-Ok.ensures.served h st.holds in
    stands-by _ (access x ∷ h) (rules_of old) same st.working (c.in-Ok.ensures.holds h st.holds)
    (shadow-after g p h x c.in-Ok-classify.prior.in_shadow c.may_load-load.result
    old.classifier.shadow.cap old.classifier.shadow.entries c.classify.new.self.shadow.entries
    (rw block-is at c.in-Ok-classify.ensures.promotes)
    (rw block-is at c.in-Ok-classify.ensures.in_shadow) load-is old.shadow_room st.shadow)
    (λ q. c.in-Ok-classify.ensures.adds q
    ∙ ap (λ z. not c.in-Ok.served.hit && nat_eq z q || contains nat_eq old.classifier.referenced q)
    block-is ∙ referenced-after g p h x c.in-Ok.served.hit
    (contains nat_eq old.classifier.referenced)
    (served.hit ∙ outcome_of-hit (rules_of old) h x) st.referenced q)
    (c.add_access.ensures
    ∙ ap (λ o. with_access x o old.counts) (returns-clause-outcome c h st)
    ∙ ap (with_access x (outcome_of (rules_of old) h x)) st.counts
    ∙ counts-step (rules_of old) h x)
    (let n = st.served in omega arith)

pub returns-clause-stands : goal.returns-clause-stands
returns-clause-stands = stands-next

pub returns-clause-residents : goal.returns-clause-residents
returns-clause-residents c = λ h st.
    holds-residents _ (access c.args.access ∷ h) (stands-next c h st)
