use Rattle.std.proofs.Common.{◌/◌, subst}
use Rattle.cache_core.specs.Geometry.{bsize_of}
use Rattle.grid_core.specs.Recent.{IsAgain}
use Rattle.grid_core.specs.Shadows.{recent_in}
use Rattle.grid_core.proofs.stacked.Stacked.access.Goals as goal

pub repeat-requires-clause-again : goal.repeat-requires-clause-again
repeat-requires-clause-again c =
    let old = c.args.self.now in
    let p = recent_in old.shadows in
    subst (λ w. IsAgain (c.args.access.addr / bsize_of old.geometry) w p) c.writes.ensures
    (subst (λ b. IsAgain b c.writes.result p) c.block-block.ensures
    (c.is_again.ensures.again c.if-is_again.true))
