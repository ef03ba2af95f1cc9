use Rattle.std.proofs.Common.{rules}
use Rattle.std.proofs.lemmas.List.Elements.{AllWithin-more, at_read}
use Rattle.grid_run.specs.Fronts.{IsSilent}
use Rattle.grid_run.proofs.fronts.are_silent.Goals as goal

pub loop-front-preserved : goal.loop-front-preserved
loop-front-preserved c =
    let fronts = c.args.fronts.now in
    let k = c.loop-front.front-index in
    AllWithin-more IsSilent fronts 0 k c.loop-front.invariant
    (at_read fronts IsSilent k c.front-item.result c.loop-front-test.true c.front-item.is
    (c.is_silent.ensures (search rules)))
