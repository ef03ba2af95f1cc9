use Rattle.std.proofs.Common.{refl, sym, ap, ◌∙◌}
use Rattle.din_trace.specs.Line.{form}
use Rattle.din_trace.specs.LineSoFar.{form_answer}
use Rattle.din_trace.specs.Line.{ADDRESS_MAX}
use Rattle.din_trace.specs.Text.{open_line}
use Rattle.din_trace.specs.Standing as words
use Rattle.din_trace.proofs.Stands.{stands-ended, stands-form, answered}
use Rattle.din_trace.proofs.line_reader.LineReader.end_line.Goals as goal

pub returns-in-Ok-clause-ends : goal.returns-in-Ok-clause-ends
unfolding words.StandsFor words.line_of words.HasNoFault
returns-in-Ok-clause-ends c text s =
    let a = answered (form ADDRESS_MAX (open_line text)) c.args.self.now.line c.in-Ok.found
    (ap form_answer (stands-form _ text s) ∙ sym c.in-Ok.ensures) in
    (sym a.0, stands-ended _ _ text s.no_fault refl refl a.1 s)
