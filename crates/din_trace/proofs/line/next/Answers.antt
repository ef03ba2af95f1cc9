use Rattle.std.proofs.Common.{◌∙◌}
use Rattle.din_trace.specs.Line.{ADDRESS_MAX}
use Rattle.din_trace.proofs.Steps.{zero_is_digit}
use Rattle.din_trace.proofs.line.next.Goals as goal

pub returns-else-byte-eq88-clause-form : goal.returns-else-byte-eq88-clause-form
returns-else-byte-eq88-clause-form c tail =
    rw c.in-Zero.is
    (zero_is_digit ADDRESS_MAX c.in-Zero.label c.args.byte tail c.if-byte-eq88.false.0
    c.if-byte-eq88.false.1 ∙ c.at_digit.ensures.form tail)
