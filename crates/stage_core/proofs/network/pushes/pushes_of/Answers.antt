use Rattle.std.proofs.Common.{◌≡◌, ◌+◌, ◌++◌, List, get_or, length, map, option_to_list, take, sym}
use Rattle.std.proofs.Common.{ap, ◌∙◌, arith}
use Rattle.std.proofs.lemmas.List.{take_more, length-take-le}
use Rattle.din_trace.specs.declared.record.DinRecord.{DinRecord}
use Rattle.din_trace.specs.declared.record.Label.TheVariants as label
use Rattle.stage_core.specs.Places.{flat_map_with_past}
use Rattle.stage_core.specs.Events.{asked}
use Rattle.stage_core.specs.Streams.{message, messages_to, turn_of}
use Rattle.stage_core.specs.Network.Pushes.{in_order, pushes_at, pushes_in}
use Rattle.stage_core.specs.declared.message.Side.{Side}
use Rattle.stage_core.specs.declared.message.Side.TheVariants as side
use Rattle.stage_core.proofs.Place.{flat_map_with_past-more}
use Rattle.stage_core.proofs.network.pushes.pushes_of.Goals as goal

pub loop-event-preserved : goal.loop-event-preserved
loop-event-preserved c =
    let es = c.args.events.now in
    let k = c.loop-event.event-index in
    let first : DinRecord = record { label = label.Read; addr = 0 } in
    let before : List DinRecord = take k es in
    let e : DinRecord = get_or es k first in
    let place = c.loop-event.splitter in
    let routed = c.route-routed in
    let at : length before ≡ place =
    length-take-le k es (omega (arith, c.loop-event-test.true))
    ∙ sym c.loop-event.invariant.place in
    let told_of : (s : Side) → map (message (place + 1)) (asked s e) ≡ messages_to s before e =
    λ s. ap (λ n. map (message (n + 1)) (asked s e)) (sym at) in
    let same =
    ap (λ t. in_order t (option_to_list routed.result.i) (option_to_list routed.result.d))
    routed.ensures.turn
    ∙ ap (λ is. in_order (turn_of e.label) is (option_to_list routed.result.d))
    (routed.ensures.i ∙ told_of side.I)
    ∙ ap (in_order (turn_of e.label) (messages_to side.I before e))
    (routed.ensures.d ∙ told_of side.D) in
    record {
      made = c.in_ok-add_routed.ensures
          ∙ ap (λ ps. ps ++ pushes_in routed.result) c.loop-event.invariant.made
          ∙ ap (λ ps. flat_map_with_past pushes_at before ++ ps) same
          ∙ sym (flat_map_with_past-more pushes_at before e)
          ∙ ap (flat_map_with_past pushes_at) (sym (take_more es k first c.loop-event-test.true));
      place = omega (arith, routed.ensures.place, c.loop-event.invariant.place);
    }
