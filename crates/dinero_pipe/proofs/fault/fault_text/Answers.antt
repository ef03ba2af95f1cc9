use Rattle.std.proofs.Common.{◌∙◌, sym}
use Rattle.dinero_options.proofs.LineLemmas.{line-written}
use Rattle.dinero_pipe.proofs.fault.fault_text.Goals as goal

pub returns : goal.returns
returns g c =
    line-written _ _ _ _ (sym c.is_help.ensures ∙ c.if-is_help.false) c.in_ok-put.ensures
    c.in_ok-put_fault.ensures c.put-2.ensures
