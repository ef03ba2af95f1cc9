use Rattle.std.proofs.Common.{◌≡◌, get_or, ◌-◌, ◌^◌, sym, subst, ◌∙◌, arith}
use Rattle.std.proofs.lemmas.List.{get_or_default}
use Rattle.cache_core.specs.declared.counts.PerClass.{PerClass}
use Rattle.cache_core.specs.Counts.{none_by_class}
use Rattle.cache_core.specs.Counting.{IsWithin}
use Rattle.grid_core.proofs.Totals.{within-each, within-more}
use Rattle.grid_core.proofs.sums.count_at.Goals as goal

pub count-requires : goal.count-requires
count-requires c =
    let ps = c.args.counts.now.items in
    let one = c.index_mut.result.now in
    let is : one ≡ get_or ps c.args.index none_by_class = c.index_mut.ensures.value
    ∙ get_or_default ps c.args.index one none_by_class c.requires.inside in
    subst (λ (p : PerClass). IsWithin p (2 ^ 64 - 2)) (sym is)
    (within-more _ (2 ^ 44) (2 ^ 64 - 2) (omega arith)
    (within-each (2 ^ 44) ps c.args.index c.requires.inside c.requires.within))
