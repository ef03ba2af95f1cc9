use Rattle.std.proofs.Common.{sym}
use Rattle.din_trace.specs.Line.{ADDRESS_MAX}
use Rattle.din_trace.proofs.Steps.{form-blank, form-label, form-other}
use Rattle.din_trace.proofs.line.at_start.Goals as goal

pub returns-then-is_blank-clause-form : goal.returns-then-is_blank-clause-form
returns-then-is_blank-clause-form c tail =
    form-blank ADDRESS_MAX c.args.byte tail (sym c.if-is_blank.ensures)

pub returns-in-Some-clause-form : goal.returns-in-Some-clause-form
returns-in-Some-clause-form c tail =
    rw c.in-Some.ensures.1 (form-label ADDRESS_MAX c.args.byte tail c.in-Some.ensures.0)

pub returns-in-None-clause-form : goal.returns-in-None-clause-form
returns-in-None-clause-form c tail =
    form-other ADDRESS_MAX c.args.byte tail (sym c.if-is_blank.ensures) c.in-None.ensures
