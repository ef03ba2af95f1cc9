use Rattle.std.proofs.Common.{subst, sym, refl}
use Rattle.grid_options.specs.Refusals.{HasNoControls}
use Rattle.grid_options.proofs.ControlLemmas.{HasNoControls-push}
use Rattle.grid_options.proofs.refusal.add_gap.Goals as goal

pub returns-in_ok-push : goal.returns-in_ok-push
returns-in_ok-push c =
    subst HasNoControls (sym c.in_ok-push.ensures.bytes)
    (HasNoControls-push _ _ c.requires refl)
