use Rattle.std.proofs.Common.{◌≡◌, None, not, take}
use Rattle.std.specs.List.{find}
use Rattle.clap.specs.Words.{found_of, rows_of}
use Rattle.dinero_options.specs.Options.{options}
use Rattle.grid_options.specs.Grid.{has_readable}
use Rattle.grid_options.proofs.values.first_unreadable.Given as goal

abbrev pub invariant-loop-option : goal.invariant-loop-option
invariant-loop-option l = let rows = rows_of (found_of l.matches) in
    find (λ x. not (has_readable rows x)) (take l.option-index options) ≡ None
