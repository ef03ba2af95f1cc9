use Rattle.std.proofs.Common.{ap, ◌∙◌}
use Rattle.cache_core.specs.Geometry.{size_of, bsize_of, assoc_of}
use Rattle.cache_core.specs.Standing.{rules_of, rules_held, counts_kept}
use Rattle.cache_core.proofs.Masks.{one_set}
use Rattle.cache_core.proofs.OneSet.{none-counted}
use Rattle.cache_core.proofs.cache.Cache.counts.Goals as goal

pub returns-clause-one_lru_set : goal.returns-clause-one_lru_set
unfolding counts_kept rules_of rules_held size_of bsize_of assoc_of
returns-clause-one_lru_set c = λ h st one lru.
    let g = c.args.self.now.contents.geometry in
    let all = one_set g.size g.bsize g.assoc g.lawful one in
    ap (λ k. k.conflict) st.counts
    ∙ none-counted (rules_of c.args.self.now)
    (record { one_set = one; all_blocks = all; lru = lru }) h
