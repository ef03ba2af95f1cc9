use Rattle.std.proofs.Common.{string_bytes}
use Rattle.grid_options.specs.Refusals.{HasNoControls}
use Rattle.grid_options.proofs.refusal.first_paragraph.Given as goal

abbrev pub invariant-loop-line : goal.invariant-loop-line
invariant-loop-line l = HasNoControls (string_bytes l.text)
