use Rattle.std.proofs.Common.{subst, sym}
use Rattle.grid_options.specs.Refusals.{HasNoControls}
use Rattle.grid_options.proofs.ControlLemmas.{HasNoControls-push}
use Rattle.grid_options.proofs.refusal.add_line.Goals as goal

pub loop-character-preserved : goal.loop-character-preserved
loop-character-preserved c =
    subst HasNoControls (sym c.in_ok-push.ensures.bytes)
    (HasNoControls-push _ _ c.loop-character.invariant c.shown_character.ensures)
