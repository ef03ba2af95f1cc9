use Rattle.std.proofs.Common.{◌≡◌, take}
use Rattle.clap.specs.Words.{app_of}
use Rattle.dinero_options.specs.Options.{with_options}
use Rattle.dinero_options.proofs.command.add_options.Given as goal

abbrev pub invariant-loop-option : goal.invariant-loop-option
invariant-loop-option l = app_of l.command
    ≡ with_options (app_of l.initial.command) (take l.option-index l.options)
