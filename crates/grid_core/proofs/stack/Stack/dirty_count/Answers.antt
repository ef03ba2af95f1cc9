use Rattle.grid_core.proofs.Strides.{stride-power}
use Rattle.grid_core.proofs.stack.Stack.dirty_count.Goals as goal

pub count_dirty-requires-clause-power : goal.count_dirty-requires-clause-power
count_dirty-requires-clause-power c =
    let old = c.args.self.now in
    rw old.apart (stride-power old.geometry)

pub returns : goal.returns
returns c =
    let old = c.args.self.now in
    rw (old.apart, c.sets-sets.ensures) at c.count_dirty.ensures
