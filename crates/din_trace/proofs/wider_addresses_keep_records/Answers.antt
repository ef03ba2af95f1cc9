use Rattle.din_trace.proofs.Wider.{wider}
use Rattle.din_trace.proofs.wider_addresses_keep_records.Goals as goal

pub returns : goal.returns
returns c small great le text limit none = wider small great le text limit none
