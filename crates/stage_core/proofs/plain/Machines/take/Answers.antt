use Rattle.std.proofs.Common.{◌+◌, ◌++◌, ◌∷◌, [], List, length, sym, ap, subst, ◌∙◌, arith}
use Rattle.std.proofs.Common.{append_assoc, length-append}
use Rattle.stage_core.specs.Places.{flat_map_with_past}
use Rattle.stage_core.specs.SecondLevel.{Hierarchy, parts_in, sent_up, second_level_requests}
use Rattle.stage_core.specs.Streams.{messages_to}
use Rattle.stage_core.specs.Merging.{after_turn}
use Rattle.stage_core.specs.Standing.{L2StandsFor}
use Rattle.stage_core.specs.Plain.{brought_from, hierarchy_in}
use Rattle.stage_core.specs.declared.message.Side.TheVariants as side
use Rattle.stage_core.specs.declared.message.What.{What}
use Rattle.stage_core.proofs.Worked.{few-served, brought-event, ran-more}
use Rattle.stage_core.proofs.Worked.{second_level_requests-more, room-above, same-rules}
use Rattle.stage_core.proofs.Worked.{served-requests}
use Rattle.stage_core.proofs.Turns.{at-order}
use Rattle.stage_core.proofs.plain.Machines.take.Goals as goal

pub serve_side-requires-clause-room : goal.serve_side-requires-clause-room
serve_side-requires-clause-room c = few-served c.requires.room.1.i c.requires.room.2

pub serve_side-requires-clause-room_above : goal.serve_side-requires-clause-room_above
serve_side-requires-clause-room_above c =
    let es = c.requires.room.0 in
    let ran = c.requires.room.1 in
    let routed = c.route-routed in
    let event = c.args.event in
    let i = brought-event event c.args.self.now.splitter routed.result.i ran.i ran.place
    routed.ensures.i in
    let room = room-above c.second_level_sees_at_most_two.ensures (hierarchy_in c.args.self.now) es
    event
    c.requires.room.2 in (
      flat_map_with_past (messages_to side.I) es,
      ran.i.stands,
      omega (arith, ap length i, room, served-requests ran.u),
    )

pub serve_side-requires-2-clause-room : goal.serve_side-requires-2-clause-room
serve_side-requires-2-clause-room c = few-served c.requires.room.1.d c.requires.room.2

pub serve_side-requires-2-clause-room_above : goal.serve_side-requires-2-clause-room_above
serve_side-requires-2-clause-room_above c =
    let old = c.args.self.now in
    let es = c.requires.room.0 in
    let ran = c.requires.room.1 in
    let routed = c.route-routed in
    let event = c.args.event in
    let i = brought-event event old.splitter routed.result.i ran.i ran.place routed.ensures.i in
    let d = brought-event event old.splitter routed.result.d ran.d ran.place routed.ensures.d in
    let room = room-above c.second_level_sees_at_most_two.ensures (hierarchy_in old) es event
    c.requires.room.2 in
    let before : List What = second_level_requests (parts_in (hierarchy_in old)) es in
    let brought : List What = brought_from old.i (flat_map_with_past (messages_to side.I) es)
    routed.result.i in
    let served = served-requests
    (c.in_ok-serve_side.ensures.second (flat_map_with_past (messages_to side.I) es) before
    ran.i.stands ran.u) in (
      flat_map_with_past (messages_to side.D) es,
      ran.d.stands,
      omega (arith, ap length i, ap length d, room, served, length-append before brought),
    )

pub returns-clause-ran : goal.returns-clause-ran
returns-clause-ran c = λ es ran.
    let old = c.args.self.now in
    let event = c.args.event in
    let routed = c.route-routed in
    let i_served = c.in_ok-serve_side.ensures in
    let d_served = c.in_ok-serve_side-2.ensures in
    let i = brought-event event old.splitter routed.result.i ran.i ran.place routed.ensures.i in
    let d = brought-event event old.splitter routed.result.d ran.d ran.place routed.ensures.d in
    let before : List What = second_level_requests (parts_in (hierarchy_in old)) es in
    let i_brought : List What = brought_from old.i (flat_map_with_past (messages_to side.I) es)
    routed.result.i in
    let d_brought : List What = brought_from old.d (flat_map_with_past (messages_to side.D) es)
    routed.result.d in
    let rules = same-rules i_served.rules d_served.rules
    (d_served.rules_above ∙ i_served.rules_above) in
    let requests = append_assoc before i_brought d_brought
    ∙ ap (λ ws. before ++ (ws ++ d_brought)) i
    ∙ ap (λ ws. before ++ (sent_up (parts_in (hierarchy_in old)) side.I es event ++ ws)) d
    ∙ sym (second_level_requests-more (parts_in (hierarchy_in old)) es event)
    ∙ ap (λ (h : Hierarchy). second_level_requests (parts_in h) (es ++ event ∷ [])) (sym rules) in
    record {
      place = omega (arith, ran.place, routed.ensures.place, length-append es (event ∷ []));
      i = ran-more event old.splitter routed.result.i ran.i ran.place routed.ensures.i
          i_served.side i_served.ready i_served.stands;
      d = ran-more event old.splitter routed.result.d ran.d ran.place routed.ensures.d
          d_served.side d_served.ready d_served.stands;
      merge = at-order event.label event.addr (old.splitter + 1)
          (c.turn.ensures ∙ ap after_turn routed.ensures.turn)
          routed.ensures.i routed.ensures.d i_served.merge d_served.merge;
      u = subst (L2StandsFor c.serve_side-2.new.u) requests
          (d_served.second (flat_map_with_past (messages_to side.D) es) (before ++ i_brought)
          ran.d.stands
          (i_served.second (flat_map_with_past (messages_to side.I) es) before ran.i.stands ran.u));
    }
