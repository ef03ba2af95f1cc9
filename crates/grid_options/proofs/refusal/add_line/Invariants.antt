use Rattle.std.proofs.Common.{string_bytes}
use Rattle.grid_options.specs.Refusals.{HasNoControls}
use Rattle.grid_options.proofs.refusal.add_line.Given as goal

abbrev pub invariant-loop-character : goal.invariant-loop-character
invariant-loop-character l = HasNoControls (string_bytes l.text)
