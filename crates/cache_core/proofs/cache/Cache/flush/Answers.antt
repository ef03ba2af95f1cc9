use Rattle.std.proofs.Common.{◌≡◌, ◌+◌, ◌*◌, ◌≤◌, ◌∷◌, ◌++◌, length, map, nat_eq, sym, ap, subst}
use Rattle.std.proofs.Common.{◌∙◌, arith}
use Rattle.std.specs.HashSet.{contains}
use Rattle.std.proofs.lemmas.List.{length-map, length-append}
use Rattle.cache_core.specs.Parts.{one_if}
use Rattle.cache_core.specs.History.{flush}
use Rattle.cache_core.specs.Dirty.{dirty_blocks}
use Rattle.cache_core.specs.Kinds.{referenced_blocks, shadow_of}
use Rattle.cache_core.specs.Counts.{AddUp}
use Rattle.cache_core.specs.Order.{ways_of}
use Rattle.cache_core.specs.Counting.{AreWithin, with_flush}
use Rattle.cache_core.specs.Standing.{rules_of, rules_held, ways_held, served_of, counts_kept}
use Rattle.cache_core.specs.Standing.{has_failed}
use Rattle.cache_core.proofs.CacheFacts.{AreWithin-with_flush}
use Rattle.cache_core.proofs.Nothing.{ways_of-none, renewals-flush}
use Rattle.cache_core.proofs.Steps.{flush-counts}
use Rattle.cache_core.proofs.SameRules.{stands-by}
use Rattle.cache_core.proofs.Shadow.{pair}
use Rattle.cache_core.proofs.cache.Cache.flush.Goals as goal

pub invariant_of-self-2 : goal.invariant_of-self-2
unfolding rules_held ways_held has_failed
invariant_of-self-2 c =
    let old = c.args.self.now in
    let few = c.in-Ok.ensures.at_most in
    let len = c.len.ensures in
    let long = c.in-Ok.block_addrs.ok.0 in
    let charged = old.charged in
    let none = ap one_if (sym c.failed.ensures ∙ c.if-failed.false) in
    let fits : old.counts.written_back + c.len.result ≤ old.served = omega arith in
    let clean = c.clear.ensures.clean in
    let counted : c.add_flush.new.self.written_back ≡ old.counts.written_back + c.len.result =
    ap (λ k. k.written_back) c.add_flush.ensures in
    record {
      shadow_room = ap (λ s. s.cap) c.forget_shadow.ensures.shadow ∙ old.shadow_room
          ∙ sym (ap (λ r. r.blocks) c.clear.ensures.rules);
      bounded = subst (λ k. AreWithin k (old.served + 1)) (sym c.add_flush.ensures)
          (AreWithin-with_flush c.len.result old.counts old.served fits old.bounded);
      sums = subst (λ k. AddUp k.misses k.compulsory k.capacity k.conflict)
          (sym c.add_flush.ensures) old.sums;
      charged = omega arith;
    }

pub returns-clause-appends : goal.returns-clause-appends
unfolding rules_of
returns-clause-appends c = λ h st.
    c.in-Ok-extend_from_slice.ensures.items ∙ ap (λ l. c.args.out.now.items ++ l)
    (c.deref.ensures.value ∙ c.in-Ok.ensures.list h st.holds)

pub returns-clause-stands : goal.returns-clause-stands
unfolding referenced_blocks rules_of rules_held served_of counts_kept has_failed
returns-clause-stands c = λ h st.
    let old = c.args.self.now in
    let r = rules_of old in
    let written : c.len.result
    ≡ length (dirty_blocks r h) = c.len.ensures ∙ c.in-Ok.block_addrs.ok.0
    ∙ ap length (c.in-Ok.ensures.list h st.holds)
    ∙ length-map (dirty_blocks r h) (λ b. b * r.bsize) in
    stands-by _ (flush ∷ h) r c.clear.ensures.rules st.working (c.clear.ensures.holds h)
    (ap (λ s. s.entries) c.forget_shadow.ensures.shadow
    ∙ sym (ap (λ l. map pair l) (ap (ways_of (shadow_of r) 0) (renewals-flush (shadow_of r) h)
    ∙ ways_of-none (shadow_of r) 0)))
    (λ q. ap (λ k. contains nat_eq k q) c.forget_shadow.ensures.referenced ∙ st.referenced q)
    (c.add_flush.ensures ∙ ap (with_flush c.len.result) st.counts
    ∙ flush-counts r h c.len.result written)
    (let n = st.served in omega arith)

pub returns-clause-at_most : goal.returns-clause-at_most
returns-clause-at_most c =
    let few = c.dirty.ensures.few in
    let most = c.in-Ok.ensures.at_most in
    let value = ap length c.deref.ensures.value in
    let all = ap length c.in-Ok-extend_from_slice.ensures.items
    ∙ length-append c.args.out.now.items _ in
    omega arith
