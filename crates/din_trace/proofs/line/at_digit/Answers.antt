use Rattle.std.proofs.Common.{arith}
use Rattle.din_trace.specs.Line.{ADDRESS_MAX}
use Rattle.din_trace.proofs.Steps.{past_range}
use Rattle.din_trace.proofs.line.at_digit.Goals as goal

pub returns-else-last-lt-FULL-clause-form : goal.returns-else-last-lt-FULL-clause-form
returns-else-last-lt-FULL-clause-form c tail =
    past_range ADDRESS_MAX c.args.last.label c.args.last.addr c.args.byte tail c.in-Some.ensures.0
    (omega arith)
