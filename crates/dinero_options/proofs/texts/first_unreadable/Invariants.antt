use Rattle.std.proofs.Common.{◌≡◌, None, map, take}
use Rattle.dinero_options.specs.Answer.{first_unreadable, text_at}
use Rattle.dinero_options.specs.Options.{options}
use Rattle.dinero_options.proofs.texts.first_unreadable.Given as goal

abbrev pub invariant-loop-option : goal.invariant-loop-option
invariant-loop-option l =
    first_unreadable (text_at (map (λ t. t.now) l.texts)) (take l.option-index options) ≡ None
