use Rattle.std.proofs.Common.{nat_eq, ◌≡◌, ◌<◌, [], map, refl, sym, ap, subst, ◌∙◌, arith, rules}
use Rattle.std.specs.List.{list_any}
use Rattle.cache_core.specs.Kinds.{referenced_blocks, shadow_of}
use Rattle.cache_core.specs.Counts.{tally, counts_of, flushes_in, flushed_back, no_counts, AddUp}
use Rattle.cache_core.specs.Order.{ways_of}
use Rattle.cache_core.specs.Counting.{AreWithin}
use Rattle.cache_core.specs.Standing.{rules_from, rules_of, rules_held, ways_held, served_of}
use Rattle.cache_core.specs.Standing.{counts_kept, has_failed}
use Rattle.cache_core.proofs.Lawful.{sane_of}
use Rattle.cache_core.proofs.CacheFacts.{AreWithin-none}
use Rattle.cache_core.proofs.SameRules.{stands-by}
use Rattle.cache_core.proofs.Shadow.{pair}
use Rattle.cache_core.proofs.Nothing.{ways_of-none, renewals-start}
use Rattle.cache_core.proofs.cache.Cache.new.Goals as goal

pub new-requires-2 : goal.new-requires-2
new-requires-2 c = subst (λ n. 0 < n) (sym c.blocks-2.ensures) (sane_of c.args.geometry).blocks_pos

pub invariant_of-result : goal.invariant_of-result
unfolding rules_held ways_held
invariant_of-result c =
    let none : c.default.result ≡ no_counts = search rules in
    let clean = c.in_ok-contents.ensures.clean in
    let zero_back : c.default.result.written_back ≡ 0 = ap (λ k. k.written_back) none in
    record {
      shadow_room = ap (λ s. s.cap) c.in-Ok.ensures.shadow ∙ c.blocks-2.ensures
          ∙ sym (ap (λ r. r.blocks) c.in_ok-contents.ensures.rules);
      bounded = subst (λ k. AreWithin k 0) (sym none) AreWithin-none;
      sums = subst (λ k. AddUp k.misses k.compulsory k.capacity k.conflict) (sym none)
          (record { instr = refl; read = refl; write = refl; misc = refl; total = refl });
      charged = omega arith;
    }

pub returns-clause-stands : goal.returns-clause-stands
unfolding counts_of tally flushes_in flushed_back referenced_blocks rules_of served_of counts_kept has_failed
returns-clause-stands c =
    let r = rules_from c.args.geometry c.args.policy in
    stands-by _ [] r c.in_ok-contents.ensures.rules refl c.in_ok-contents.ensures.holds
    (ap (λ l. l.entries) c.in-Ok.ensures.shadow
    ∙ sym (ap (λ l. map pair l) (ap (ways_of (shadow_of r) 0) (renewals-start (shadow_of r))
    ∙ ways_of-none (shadow_of r) 0)))
    (λ q. ap (list_any (nat_eq q)) c.in-Ok.ensures.referenced)
    (let none : c.default.result ≡ no_counts = search rules in none) refl
