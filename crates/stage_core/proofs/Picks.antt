-- The events of one more record.
use Rattle.std.proofs.Common.{◌≡◌, List, [], ◌∷◌, ◌++◌, count_by, option_to_list, sym, ap, ◌∙◌}
use Rattle.std.proofs.Common.{append_assoc}
use Rattle.din_trace.specs.declared.record.DinRecord.{DinRecord}
use Rattle.stage_core.specs.Places.{list_if}
use Rattle.stage_core.specs.Events.{events, events_at, inserted_flush, is_reference, picked}
use Rattle.stage_core.specs.Events.{picked_events}
use Rattle.stage_core.specs.declared.selection.Picked.{Picked}
use Rattle.stage_core.specs.declared.selection.Selection.{Selection}
use Rattle.stage_core.proofs.Place.{flat_map_with_past-more}

-- one record more adds the event and the flush that the selection makes of it
pub events-more : (s : Selection) (before : List DinRecord) (next : DinRecord) (p : Picked)
    (flushes : List DinRecord) → flushes ≡ list_if p.flush inserted_flush
    → p ≡ picked s (count_by is_reference (before ++ next ∷ [])) next
    → (events s before ++ option_to_list p.event) ++ flushes ≡ events s (before ++ next ∷ [])
events-more s before next p flushes put_in picks =
    append_assoc (events s before) (option_to_list p.event) flushes
    ∙ ap (λ l. events s before ++ (option_to_list p.event ++ l)) put_in
    ∙ ap (λ q. events s before ++ picked_events q) picks
    ∙ sym (flat_map_with_past-more (events_at s) before next)
