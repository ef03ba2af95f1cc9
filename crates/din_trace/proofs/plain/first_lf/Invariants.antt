use Rattle.std.proofs.Common.{◌-◌, length}
use Rattle.din_trace.specs.Plain.{Others}
use Rattle.din_trace.proofs.Plains.{RunsTo}
use Rattle.din_trace.proofs.plain.first_lf.Given as goal

abbrev pub invariant-bytes : goal.invariant-bytes
invariant-bytes l = RunsTo Others l.fn.bytes l.start l.at

abbrev pub decreases-bytes : goal.decreases-bytes
decreases-bytes l = length l.initial.bytes - l.at
