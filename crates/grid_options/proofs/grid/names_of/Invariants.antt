use Rattle.std.proofs.Common.{◌≡◌, map, string_bytes, take}
use Rattle.dinero_options.specs.Options.{id_of}
use Rattle.grid_options.proofs.grid.names_of.Given as goal

abbrev pub invariant-loop-option : goal.invariant-loop-option
invariant-loop-option l =
    map string_bytes l.names.items ≡ map id_of (take l.option-index l.shown)
