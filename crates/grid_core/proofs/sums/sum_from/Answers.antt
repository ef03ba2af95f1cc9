use Rattle.std.proofs.Common.{◌^◌, List, sym, ap, subst, ◌∙◌, refl}
use Rattle.cache_core.specs.declared.counts.PerClass.{PerClass}
use Rattle.cache_core.specs.Counting.{IsWithin}
use Rattle.grid_core.specs.Totals.{total}
use Rattle.grid_core.proofs.Totals.{rest-is}
use Rattle.grid_core.proofs.sums.sum_from.Goals as goal

pub sum_of-requires : goal.sum_of-requires
sum_of-requires c =
    let ps = c.args.counts.now in
    subst (λ (l : List PerClass). IsWithin (total l) (2 ^ 44))
    (sym (rest-is ps ps c.args.index refl)) c.requires.within

pub returns : goal.returns
returns c =
    let ps = c.args.counts.now in
    c.sum_of.ensures ∙ ap total (rest-is ps ps c.args.index refl)
