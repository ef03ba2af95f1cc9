use Rattle.std.proofs.Common.{◌≡◌, map, string_bytes, take}
use Rattle.grid_options.specs.Written.{written}
use Rattle.grid_options.proofs.grid.shown_values.Given as goal

abbrev pub invariant-loop-option : goal.invariant-loop-option
invariant-loop-option l = map string_bytes l.words.items
    ≡ map (written l.settings) (take l.option-index l.shown)
