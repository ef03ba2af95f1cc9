use Rattle.std.proofs.Common.{◌∙◌, ap₂, sym}
use Rattle.std.proofs.lemmas.List.Sums.{fold_more}
use Rattle.clap.specs.Words.{app_of, with_rule}
use Rattle.dinero_options.specs.Options.{rule_of_option}
use Rattle.dinero_options.proofs.command.add_options.Goals as goal

pub loop-option-preserved : goal.loop-option-preserved
loop-option-preserved c =
    c.in_ok-command.ensures.shape c.argument.ensures.local
    ∙ ap₂ with_rule c.loop-option.invariant c.argument.ensures.rule
    ∙ sym (fold_more (λ a x. with_rule a (rule_of_option x)) (app_of c.args.command)
    c.args.options.now c.loop-option.option-index _ c.loop-option-test.true)
