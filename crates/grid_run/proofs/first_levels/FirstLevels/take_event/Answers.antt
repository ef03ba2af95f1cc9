use Rattle.std.proofs.Common.{◌≡◌, ◌++◌, ◌∷◌, ◌∙◌, [], List, append-nil, get_or, map, ap, refl}
use Rattle.std.proofs.Common.{sym, subst}
use Rattle.std.specs.List.{All, flat_map}
use Rattle.std.proofs.lemmas.Result.{on_ok_weaker}
use Rattle.cache_core.specs.History.{Event, History}
use Rattle.din_trace.specs.declared.record.DinRecord.{DinRecord}
use Rattle.din_trace.specs.declared.record.Label.TheVariants as label
use Rattle.grid_core.specs.Numbered.{blocks_in}
use Rattle.stage_core.specs.Events.{asked, asked_by, history}
use Rattle.stage_core.specs.SecondLevel.{parts_of}
use Rattle.stage_core.specs.declared.message.Side.TheVariants as side
use Rattle.grid_run.specs.Backs.{AreSeatedOn, QueuesStayNumbered, SharedSeats, followed_by}
use Rattle.grid_run.specs.Senders.{seat_on, seats_at}
use Rattle.grid_run.specs.Backs.{sent_behind, sent_on_side}
use Rattle.grid_run.specs.FirstLevels.{first_task}
use Rattle.grid_run.specs.Fronts.{FrontAt, front_rules}
use Rattle.grid_run.specs.Seats.{rules_of_seat}
use Rattle.grid_run.proofs.Behind.{waiting-same}
use Rattle.grid_run.proofs.Events.{history-none}
use Rattle.grid_run.proofs.MoreNumbers.{fronts-more}
use Rattle.grid_run.proofs.Placed.{both-sides, on-ok-all, seated-on-d, seated-on-i, served-same}
use Rattle.grid_run.proofs.StayNumbered.{queues-on}
use Rattle.grid_run.proofs.first_levels.FirstLevels.take_event.Goals as goal
use Rattle.grid_run.proofs.first_levels.FirstLevels.take_event.Goals.{in-Instr, in_default}

-- a fetch asks nothing of the data caches
nothing-for-d : (e : DinRecord) → e.label ≡ label.Instr → asked side.D e ≡ []
nothing-for-d e is = ap (λ l. asked_by side.D l e.addr) is

pub serve_side-requires : goal.serve_side-requires
unfolding first_task
serve_side-requires c =
    let room = c.requires.room in
    record {
      placed = seated-on-i _ c.requires.seated;
      room = (room.1, room.2.i, room.3);
    }

pub serve_side-requires-2 : goal.serve_side-requires-2
unfolding first_task
serve_side-requires-2 c =
    let room = c.requires.room in
    let ds = map front_rules c.args.self.now.d.items in
    record {
      placed = subst (λ (ps : List SharedSeats). All (AreSeatedOn side.D ds) ps)
          (sym c.serve_side.ensures.seats) (seated-on-d _ c.requires.seated);
      room = (
        room.1,
        fronts-more _ _ c.in_ok-serve_side.ensures.numbers.grows _ _ room.2.d,
        room.3,
      );
    }

pub returns-then-matches-clause-served : goal.returns-then-matches-clause-served
unfolding first_task
returns-then-matches-clause-served c = λ given es past.
    let e = c.args.event in
    let none : asked side.D e ≡ [] = elim c.match-matches.branch [
      | in-Instr w ↦ nothing-for-d e w.in-Instr.is
      | in_default w ↦ let is = w.matches-is in let true = c.if-matches.true in absurd cc
    ] in
    let is = map front_rules c.args.self.now.i.items in
    let ds = map front_rules c.args.self.now.d.items in
    let qs = c.serve_side.new.queues.items in
    let done = c.in_ok-serve_side.ensures in
    let before = sent_behind is ds es in
    let after-i = followed_by before (sent_on_side side.I is es e) in
    record {
      i = done.stands es past.i;
      d = subst (λ (h : History). All (FrontAt (blocks_in c.serve_side.new.numbers) h)
          c.args.self.now.d.items)
          (history-none side.D es e none)
          (fronts-more _ _ done.numbers.grows _ _ past.d);
      queues = served-same given (es ++ e ∷ []) qs c.serve_side.ensures.rules refl
          (waiting-same given after-i (sent_behind is ds (es ++ e ∷ [])) qs
          (λ k q j lt inside. let p = seats_at (get_or qs k q).users.items j in
          sym (append-nil (after-i p))
          ∙ ap (λ (l : List Event). after-i p ++ flat_map (parts_of (rules_of_seat ds
          (seat_on side.D p)) side.D (history side.D es)) l) (sym none)
          ∙ both-sides is ds es e p)
          (done.asked given es before past.i past.queues));
    }

pub returns-clause-served : goal.returns-clause-served
unfolding first_task
returns-clause-served c =
    let e = c.args.event in
    let is = map front_rules c.args.self.now.i.items in
    let ds = map front_rules c.args.self.now.d.items in
    let qs = c.serve_side-2.new.queues.items in
    let first = c.in_ok-serve_side.ensures in
    on-ok-all c.serve_side-2.result
    (λ stands asked (numbers : QueuesStayNumbered _ _ _ _) given es past.
    let before = sent_behind is ds es in
    let after-i = followed_by before (sent_on_side side.I is es e) in
    let after-d = followed_by after-i (sent_on_side side.D ds es e) in
    let d = fronts-more _ _ first.numbers.grows _ _ past.d in
    record {
      i = fronts-more _ _ numbers.grows _ _ (first.stands es past.i);
      d = stands es d;
      queues = served-same given (es ++ e ∷ []) qs c.serve_side.ensures.rules
          c.serve_side-2.ensures.rules
          (waiting-same given after-d (sent_behind is ds (es ++ e ∷ [])) qs
          (λ k q j lt inside. both-sides is ds es e (seats_at (get_or qs k q).users.items j))
          (asked given es after-i d (first.asked given es before past.i past.queues)));
    }) c.serve_side-2.ensures.stands c.serve_side-2.ensures.asked
    c.serve_side-2.ensures.numbers

pub returns-clause-numbers : goal.returns-clause-numbers
returns-clause-numbers c =
    on_ok_weaker c.serve_side-2.result (queues-on c.in_ok-serve_side.ensures.numbers)
    c.serve_side-2.ensures.numbers
