use Rattle.std.proofs.Common.{◌≡◌, ◌++◌, ◌∷◌, [], List}
use Rattle.std.proofs.Common.{option_to_list, ap, sym, subst, ◌∙◌, append_assoc, arith}
use Rattle.std.proofs.Common.{length-append}
use Rattle.std.proofs.lemmas.Result.{on_ok_weaker}
use Rattle.din_trace.specs.declared.record.DinRecord.{DinRecord}
use Rattle.stage_core.specs.Events.{events, events_at}
use Rattle.stage_core.specs.declared.selection.Selection.{Selection}
use Rattle.stage_core.proofs.Place.{flat_map_with_past-more}
use Rattle.grid_run.specs.FirstLevels.{AreSeated, HasServed, first_task}
use Rattle.grid_run.specs.Picking.{HasPicked, picked_by}
use Rattle.grid_run.proofs.Events.{few-option}
use Rattle.grid_run.proofs.Placed.{served-by-same}
use Rattle.grid_run.proofs.StayNumbered.{queues-on}
use Rattle.grid_run.proofs.first_levels.FirstLevels.take.Goals as goal

pub offer-picked-requires : goal.offer-picked-requires
offer-picked-requires c =
    let room = c.requires.room in
    record { room = (room.1, room.2.picked, room.3) }

pub take_some-requires : goal.take_some-requires
unfolding first_task
take_some-requires c =
    let room = c.requires.room in
    let sel = picked_by c.args.self.now.picker in
    let few = c.selections_make_at_most_two.ensures sel room.1 in
    record {
      seated = room.2.seated;
      room = (
        room.0,
        events sel room.1,
        served-by-same room.0 c.offer-picked.new.self c.args.self.now (events sel room.1)
            room.2.served,
        omega (arith, few, room.3),
      );
    }

pub take_some-requires-2 : goal.take_some-requires-2
unfolding first_task
take_some-requires-2 c =
    let room = c.requires.room in
    let sel = picked_by c.args.self.now.picker in
    let es : List DinRecord = events sel room.1 in
    let event = option_to_list c.offer-picked.result.event in
    let few = c.selections_make_at_most_two.ensures sel room.1 in
    let picking = served-by-same room.0 c.offer-picked.new.self c.args.self.now es room.2.served in
    record {
      seated = subst AreSeated (sym c.take_some.ensures.task) room.2.seated;
      room = (
        room.0,
        es ++ event,
        c.in_ok-take_some.ensures.served room.0 es picking,
        omega (
          arith,
          few,
          room.3,
          length-append es event,
          few-option c.offer-picked.result.event,
        ),
      );
    }

pub returns-clause-given : goal.returns-clause-given
unfolding first_task
returns-clause-given c =
    let old = c.args.self.now in
    let new = c.take_some-2.new.self in
    let sel = picked_by old.picker in
    let next = c.args.next in
    let event = option_to_list c.offer-picked.result.event in
    let last = option_to_list c.inserted.result in
    let picker = c.take_some-2.ensures.picker ∙ c.take_some.ensures.picker in
    let selection = ap picked_by picker ∙ c.offer-picked.ensures.selection in
    on_ok_weaker c.take_some-2.result (λ second given past was.
    let es : List DinRecord = events sel past in
    let longer : (es ++ event) ++ last ≡ events sel (past ++ next ∷ []) =
    append_assoc es event last
    ∙ ap (λ l. es ++ (event ++ l)) c.inserted.ensures
    ∙ ap (λ (l : List DinRecord). es ++ l) (c.offer-picked.ensures.picked past was.picked)
    ∙ sym (flat_map_with_past-more (events_at sel) past next) in
    let picking = served-by-same given c.offer-picked.new.self old es was.served in
    record {
      seated = subst AreSeated (sym (c.take_some-2.ensures.task ∙ c.take_some.ensures.task))
          was.seated;
      picked = subst (HasPicked (past ++ next ∷ [])) (sym picker)
          (c.offer-picked.ensures.stands past was.picked);
      served = subst (λ (s : Selection). HasServed given (events s (past ++ next ∷ [])) new)
          (sym selection)
          (subst (λ (l : List DinRecord). HasServed given l new) longer
          (second given (es ++ event) (c.in_ok-take_some.ensures.served given es picking)));
    })
    c.take_some-2.ensures.served

pub returns-clause-numbers : goal.returns-clause-numbers
returns-clause-numbers c =
    on_ok_weaker c.take_some-2.result (queues-on c.in_ok-take_some.ensures.numbers)
    c.take_some-2.ensures.numbers
