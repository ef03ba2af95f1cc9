use Rattle.std.proofs.Common.{◌≡◌, length, nat_lt, take}
use Rattle.std.specs.List.{filter}
use Rattle.clap.specs.Words.{found_of, rows_of}
use Rattle.dinero_options.specs.Options.{options}
use Rattle.grid_options.specs.Grid.{values_of}
use Rattle.grid_options.proofs.values.varied.Given as goal

abbrev pub invariant-loop-option : goal.invariant-loop-option
invariant-loop-option l = let rows = rows_of (found_of l.matches) in
    l.varied.items
    ≡ filter (λ x. nat_lt 1 (length (values_of rows x))) (take l.option-index options)
