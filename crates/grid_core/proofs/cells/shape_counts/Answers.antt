use Rattle.std.proofs.Common.{◌^◌, map, sym, subst, arith}
use Rattle.cache_core.specs.Counting.{IsWithin}
use Rattle.grid_core.specs.Totals.{listed_counts}
use Rattle.grid_core.proofs.Tables.{within-past}
use Rattle.grid_core.proofs.cells.shape_counts.Goals as goal

pub overflow_cast-result : goal.overflow_cast-result
overflow_cast-result c =
    let tables = map listed_counts c.args.stack.now.histogram.distances.items in
    let all = subst (λ p. IsWithin p (2 ^ 44)) (sym c.past-misses.ensures)
    (within-past (2 ^ 44) tables c.args.shape.ways 0 c.requires.within.0) in
    let a = all.instr in
    let b = all.read in
    let d = all.write in
    let e = all.misc in
    omega (arith, c.total.ensures)
