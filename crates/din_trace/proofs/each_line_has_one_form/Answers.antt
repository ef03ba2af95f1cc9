use Rattle.din_trace.proofs.Forms.{has_form, form_is}
use Rattle.din_trace.proofs.each_line_has_one_form.Goals as goal

pub returns : goal.returns
returns c bound line = (has_form bound line, form_is bound line)
