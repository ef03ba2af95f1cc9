use Rattle.din_trace.proofs.FirstFaults.{first_fault_is}
use Rattle.din_trace.proofs.fault_is_of_first_faulty_line.Goals as goal

pub returns : goal.returns
returns c = first_fault_is
