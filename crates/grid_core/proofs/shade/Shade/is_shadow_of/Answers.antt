use Rattle.grid_core.proofs.Seats.{whole-shadow}
use Rattle.std.proofs.Common.{◌∙◌}
use Rattle.grid_core.proofs.shade.Shade.is_shadow_of.Goals as goal

pub returns-then-is_whole_of : goal.returns-then-is_whole_of
returns-then-is_whole_of c = λ same.
    let old = c.args.self.now in
    old.made ∙ whole-shadow old.geometry c.args.geometry old.policy c.args.policy
    (c.is_whole_of.ensures c.if-is_whole_of.true) (c.is_lru_of.ensures same)
