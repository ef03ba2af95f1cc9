use Rattle.std.proofs.Common.{◌++◌, Option, option_to_list, ap, sym, ◌∙◌, append-nil}
use Rattle.std.specs.List.{flat_map}
use Rattle.std.proofs.lemmas.Result.{on_ok_weaker}
use Rattle.stage_core.specs.declared.message.What.{What}
use Rattle.grid_run.specs.Numbering.{part_to, sent_to}
use Rattle.grid_run.proofs.StayNumbered.{stay-same}
use Rattle.grid_run.proofs.parts.ask_part.Goals as goal

pub returns-in-Some-clause-asked : goal.returns-in-Some-clause-asked
returns-in-Some-clause-asked c =
    on_ok_weaker c.ask.result (λ asked k.
    asked k ∙ ap (λ l. sent_to k c.args.waiting.now.items ++ l)
    (sym (append-nil (part_to k c.args.users c.in-Some.what))
    ∙ ap (λ (o : Option What). flat_map (part_to k c.args.users) (option_to_list o))
    (sym c.in-Some.is))) c.ask.ensures.asked

pub returns-in-None-clause-asked : goal.returns-in-None-clause-asked
returns-in-None-clause-asked c = λ k.
    let old = sent_to k c.args.waiting.now.items in
    sym (ap (λ (o : Option What). old ++ flat_map (part_to k c.args.users) (option_to_list o))
    c.in-None.is ∙ append-nil old)

pub returns-in-None-clause-numbers : goal.returns-in-None-clause-numbers
returns-in-None-clause-numbers c = stay-same _ _ _
