use Rattle.din_trace.proofs.Texts.{leaves_text}
use Rattle.din_trace.proofs.source_has_its_text_left.Goals as goal

pub returns : goal.returns
returns c = leaves_text
