use Rattle.std.proofs.Common.{◌-◌, length}
use Rattle.din_trace.specs.Plain.{Blanks}
use Rattle.din_trace.proofs.Plains.{RunsTo}
use Rattle.din_trace.proofs.plain.blanks_end.Given as goal

abbrev pub invariant-blanks : goal.invariant-blanks
invariant-blanks l = RunsTo Blanks l.fn.bytes l.start l.at

abbrev pub decreases-blanks : goal.decreases-blanks
decreases-blanks l = length l.initial.bytes - l.at
