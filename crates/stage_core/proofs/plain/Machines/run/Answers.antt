use Rattle.std.proofs.Common.{◌++◌, ◌∷◌, [], List, count_by, get_or, option_to_list, take}
use Rattle.std.proofs.Common.{sym, ap, subst, ◌∙◌}
use Rattle.std.proofs.lemmas.List.{take_more}
use Rattle.din_trace.specs.declared.record.DinRecord.{DinRecord}
use Rattle.din_trace.specs.declared.record.Label.TheVariants as label
use Rattle.stage_core.specs.Events.{events, picked, is_reference}
use Rattle.stage_core.specs.Standing.{WasOffered}
use Rattle.stage_core.specs.Plain.{Ran}
use Rattle.stage_core.specs.declared.selection.Selection.{Selection}
use Rattle.stage_core.proofs.Picks.{events-more}
use Rattle.stage_core.proofs.plain.Machines.run.Goals as goal

pub loop-next-preserved : goal.loop-next-preserved
loop-next-preserved c =
    let inv = c.loop-next.invariant in
    let selection = c.args.selection in
    let first : DinRecord = record { label = label.Read; addr = 0 } in
    let before : List DinRecord = take c.loop-next.next-index c.args.records.now in
    let next : DinRecord = get_or c.args.records.now c.loop-next.next-index first in
    let es : List DinRecord = events selection before in
    let more = take_more c.args.records.now c.loop-next.next-index first c.loop-next-test.true in
    let picks = c.offer-picked.ensures.picked before inv.offered
    ∙ ap (λ (s : Selection). picked s (count_by is_reference (before ++ next ∷ [])) next)
    inv.selection in
    let longer = events-more selection before next c.offer-picked.result
    (option_to_list c.inserted.result) c.inserted.ensures picks
    ∙ ap (events selection) (sym more) in
    record {
      selection = c.offer-picked.ensures.selection ∙ inv.selection;
      offered = subst (WasOffered c.offer-picked.new.self) (sym more)
          (c.offer-picked.ensures.stands before inv.offered);
      ran = subst (Ran c.take_some-in-loop-next.new.self) longer
          (c.in_ok-take_some-2.ensures.ran (es ++ option_to_list c.offer-picked.result.event)
          (c.in_ok-take_some.ensures.ran es inv.ran));
      rules = c.take_some-in-loop-next.ensures.rules ∙ c.take_some.ensures.rules ∙ inv.rules;
    }
