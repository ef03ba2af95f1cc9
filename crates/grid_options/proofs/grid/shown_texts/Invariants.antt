use Rattle.std.proofs.Common.{◌≡◌, map, string_bytes, take}
use Rattle.dinero_options.specs.Answer.{text_at}
use Rattle.grid_options.proofs.grid.shown_texts.Given as goal

abbrev pub invariant-loop-option : goal.invariant-loop-option
invariant-loop-option l = map string_bytes l.words.items
    ≡ map (text_at (map (λ t. t.now) l.texts)) (take l.option-index l.shown)
