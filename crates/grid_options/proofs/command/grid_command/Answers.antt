use Rattle.std.proofs.Common.{◌∙◌, ap₂}
use Rattle.std.proofs.lemmas.Result.{IfOk-weaker}
use Rattle.clap.specs.Words.{with_rule}
use Rattle.grid_options.proofs.command.grid_command.Goals as goal

pub returns : goal.returns
returns c =
    let threads = c.in_ok-command-2.ensures.shape c.threads_argument.ensures.local
    ∙ ap₂ with_rule c.in_ok-command.ensures c.threads_argument.ensures.rule in
    IfOk-weaker c.arg-2.result _ _ (λ r adds. adds.shape c.full_argument.ensures.local
    ∙ ap₂ with_rule threads c.full_argument.ensures.rule) c.arg-2.ensures
