use Rattle.std.proofs.Common.{sym, subst}
use Rattle.std.specs.List.{All}
use Rattle.std.proofs.lemmas.List.Elements.{All-push}
use Rattle.grid_core.specs.Slot.{HasWords}
use Rattle.grid_core.proofs.Strides.{direct-words}
use Rattle.grid_core.proofs.OtherWays.{one-is-power, one-fits}
use Rattle.grid_core.proofs.shading.as_large.Goals as goal

pub with_assoc-requires-clause-power : goal.with_assoc-requires-clause-power
with_assoc-requires-clause-power c = one-is-power

pub with_assoc-requires-clause-fits : goal.with_assoc-requires-clause-fits
with_assoc-requires-clause-fits c = one-fits c.args.geometry

pub returns-clause-words : goal.returns-clause-words
returns-clause-words c = λ all.
    subst (All HasWords) (sym c.in_ok-push.ensures.items)
    (All-push HasWords c.args.together.now.items c.with_assoc.result all
    (direct-words c.with_assoc.result c.with_assoc.ensures.has_assoc))
