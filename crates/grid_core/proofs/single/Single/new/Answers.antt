use Rattle.std.proofs.Common.{◌≡◌, sym, ap, subst, arith, rules}
use Rattle.cache_core.specs.Counting.{AreWithin}
use Rattle.cache_core.specs.Counts.{no_counts, tally, counts_of, flushes_in, flushed_back}
use Rattle.cache_core.proofs.CacheFacts.{AreWithin-none}
use Rattle.grid_core.proofs.single.Single.new.Goals as goal

pub invariant_of-result : goal.invariant_of-result
invariant_of-result c =
    let none : c.default.result ≡ no_counts = search rules in
    let zero = ap (λ k. k.written_back) none in
    let clean = c.in-Ok.ensures.clean in
    record {
      bounded = subst (λ k. AreWithin k 0) (sym none) AreWithin-none;
      charged = omega arith;
    }

pub returns-clause-stands : goal.returns-clause-stands
unfolding counts_of tally flushes_in flushed_back
returns-clause-stands c = record {
  holds = c.in-Ok.ensures.holds;
  counted = (let none : c.default.result ≡ no_counts = search rules in none);
}
