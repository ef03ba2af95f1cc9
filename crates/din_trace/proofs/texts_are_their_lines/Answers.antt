use Rattle.din_trace.proofs.Cuts.{cut_is}
use Rattle.din_trace.proofs.texts_are_their_lines.Goals as goal

pub returns : goal.returns
returns c = cut_is
