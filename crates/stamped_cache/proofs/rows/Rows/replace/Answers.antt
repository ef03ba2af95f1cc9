use Rattle.std.proofs.Common.{get_or, take, ap, arith}
use Rattle.stamped_cache.specs.Rows.{row_held}
use Rattle.stamped_cache.proofs.RowLists.{row-set_other}
use Rattle.stamped_cache.proofs.RowSizes.{held-low}
use Rattle.stamped_cache.proofs.rows.Rows.replace.Goals as goal

pub returns-clause-others : goal.returns-clause-others
unfolding row_held
returns-clause-others c = λ t apart.
    let old = c.args.self.now in
    let low = held-low old c.args.row in
    let held = c.requires.held in
    ap (take (get_or old.filled.items t 0))
    (row-set_other old.ways c.args.row old.numbers.items c.args.number c.args.index t
    (omega arith) apart)
