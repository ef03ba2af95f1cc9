use Rattle.std.proofs.Common.{◌+◌, suc, drop, length, sym, ap, ◌∙◌}
use Rattle.std.proofs.lemmas.List.{length-replicate}
use Rattle.cache_core.specs.Counts.{none_by_class}
use Rattle.grid_core.specs.Totals.{total}
use Rattle.grid_core.proofs.Totals.{total-none, drop-none}
use Rattle.grid_core.proofs.shadows.Shadows.new.Goals as goal

pub invariant_of-result : goal.invariant_of-result
invariant_of-result c = record {
  leveled = ap length c.in_ok-levels.ensures
      ∙ length-replicate (length c.args.sizes.now + 1) none_by_class
      ∙ ap (λ l. length l + 1) (sym c.in_ok-order.ensures.sizes);
}

pub returns-clause-levels : goal.returns-clause-levels
returns-clause-levels c = ap total c.in_ok-levels.ensures
    ∙ total-none (length c.args.sizes.now + 1)

pub returns-clause-far : goal.returns-clause-far
returns-clause-far c = λ k. ap (λ l. total (drop (suc k) l)) c.in_ok-levels.ensures
    ∙ drop-none (length c.args.sizes.now + 1) (suc k)
