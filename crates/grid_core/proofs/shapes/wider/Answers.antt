use Rattle.std.proofs.Common.{◌∙◌, arith}
use Rattle.grid_core.proofs.shapes.wider.Goals as goal

pub returns-then-is_wider-clause-wider : goal.returns-then-is_wider-clause-wider
returns-then-is_wider-clause-wider c = λ g before.
    let more = c.is_wider.ensures c.if-is_wider.true in
    let low = before.fits in
    let high = more.fits in
    record {
      same_bsize = more.same_bsize ∙ before.same_bsize;
      same_sets = more.same_sets ∙ before.same_sets;
      fits = omega arith;
    }
