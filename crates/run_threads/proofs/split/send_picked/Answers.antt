use Rattle.std.proofs.Common.{◌++◌, false, List}
use Rattle.std.proofs.Common.{option_to_list, ap, subst, ◌∙◌, append_assoc}
use Rattle.std.proofs.lemmas.Result.{on_ok_weaker}
use Rattle.din_trace.specs.declared.record.DinRecord.{DinRecord}
use Rattle.stage_core.specs.Waiting.{HasPosted}
use Rattle.run_threads.specs.Waits.{splitter_at}
use Rattle.run_threads.proofs.split.send_picked.Goals as goal

pub returns-clause-posted : goal.returns-clause-posted
returns-clause-posted g c =
    let event = option_to_list c.args.picked.event in
    let last = option_to_list c.inserted.result in
    on_ok_weaker c.send_some-2.result (λ posts es going.
    subst (λ (l : List DinRecord). HasPosted (splitter_at l false c.send_some-2.new.ends))
    (append_assoc es event last ∙ ap (λ l. es ++ (event ++ l)) c.inserted.ensures)
    (posts (es ++ event) (c.in_ok-send_some.ensures.posted es going)))
    c.send_some-2.ensures.posted
