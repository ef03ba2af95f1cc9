use Rattle.std.proofs.Common.{◌+◌, true, not, ◌&&◌, ltb, drop, sym, ap, subst, ◌∙◌}
use Rattle.cache_core.specs.declared.counts.PerClass.{PerClass}
use Rattle.cache_core.specs.Counting.{IsWithin, with_one}
use Rattle.cache_core.proofs.CacheFacts.{IsWithin-with_one}
use Rattle.grid_core.specs.Totals.{total}
use Rattle.grid_core.proofs.Tables.{total-from}
use Rattle.grid_core.proofs.Totals.{total-set}
use Rattle.grid_core.proofs.histogram.count_first.Goals as goal

pub returns-then-writes-clause-first : goal.returns-then-writes-clause-first
returns-then-writes-clause-first c = λ n some.
    let ps = c.args.counts.now.items in
    ap (λ l. total (drop n l)) c.count_at.ensures
    ∙ total-from c.args.access ps c.args.clean n c.requires.clean
    ∙ ap (λ t. with_one c.args.access (t && not (ltb c.args.clean n)) (total (drop n ps)))
    (sym c.if-writes.true ∙ c.writes.ensures)

pub returns-then-writes-clause-bounds : goal.returns-then-writes-clause-bounds
returns-then-writes-clause-bounds c = λ b all.
    let ps = c.args.counts.now.items in
    subst (λ (p : PerClass). IsWithin p (b + 1))
    (sym (ap total c.count_at.ensures ∙ total-set c.args.access ps c.args.clean c.requires.clean))
    (IsWithin-with_one c.args.access true (total ps) b all)
