use Rattle.std.proofs.Common.{map, arith}
use Rattle.grid_core.specs.Totals.{listed_counts}
use Rattle.grid_core.proofs.Tables.{wide-at}
use Rattle.grid_core.proofs.histogram.Histogram.note.Goals as goal

pub count_distance-requires-clause-level : goal.count_distance-requires-clause-level
count_distance-requires-clause-level c = λ k d lt.
    let self = c.args.self.now in
    let ts = map listed_counts self.distances.items in
    let low = c.requires.level in
    let e = wide-at ts self.levels self.wide k d lt in
    omega arith
