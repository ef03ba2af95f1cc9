use Rattle.std.proofs.Common.{◌≡◌, map, take}
use Rattle.clap.specs.Words.{found_of, rows_of}
use Rattle.dinero_options.specs.Answer.{text_of}
use Rattle.dinero_options.specs.Options.{options}
use Rattle.dinero_options.proofs.texts.matched_texts.Given as goal

abbrev pub invariant-loop-option : goal.invariant-loop-option
invariant-loop-option l = map (λ t. t.now) l.texts.items
    ≡ map (text_of (rows_of (found_of l.matches))) (take l.option-index options)
