use Rattle.std.proofs.Common.{◌++◌, ◌∷◌, [], List, count_by, get_or, option_to_list, take, sym, ap}
use Rattle.std.proofs.Common.{subst, ◌∙◌}
use Rattle.std.proofs.lemmas.List.{take_more}
use Rattle.din_trace.specs.declared.record.DinRecord.{DinRecord}
use Rattle.din_trace.specs.declared.record.Label.TheVariants as label
use Rattle.stage_core.specs.Events.{events, picked, is_reference}
use Rattle.stage_core.specs.Standing.{WasOffered}
use Rattle.stage_core.specs.declared.selection.Selection.{Selection}
use Rattle.stage_core.proofs.Picks.{events-more}
use Rattle.stage_core.proofs.selection.events_of.Goals as goal

pub loop-next-preserved : goal.loop-next-preserved
loop-next-preserved c =
    let inv = c.loop-next.invariant in
    let selection = c.args.selection in
    let offer = c.offer-picked.ensures in
    let first : DinRecord = record { label = label.Read; addr = 0 } in
    let before : List DinRecord = take c.loop-next.next-index c.args.records.now in
    let next : DinRecord = get_or c.args.records.now c.loop-next.next-index first in
    let more = take_more c.args.records.now c.loop-next.next-index first c.loop-next-test.true in
    let picks = offer.picked before inv.offered
    ∙ ap (λ (s : Selection). picked s (count_by is_reference (before ++ next ∷ [])) next)
    inv.selection in
    let flushes = option_to_list c.inserted.result in
    record {
      selection = offer.selection ∙ inv.selection;
      offered = subst (WasOffered c.offer-picked.new.self) (sym more)
          (offer.stands before inv.offered);
      made = c.in_ok-add-2.ensures ∙ ap (λ l. l ++ flushes) c.in_ok-add.ensures
          ∙ ap (λ l. (l ++ option_to_list c.offer-picked.result.event) ++ flushes) inv.made
          ∙ events-more selection before next c.offer-picked.result flushes c.inserted.ensures picks
          ∙ ap (events selection) (sym more);
    }
