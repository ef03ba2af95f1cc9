use Rattle.std.proofs.Common.{◌++◌, List, get_or, map, ap, refl, subst, sym}
use Rattle.std.specs.List.{All}
use Rattle.std.proofs.lemmas.Result.{on_ok_weaker}
use Rattle.cache_core.specs.History.{History}
use Rattle.grid_core.specs.Numbered.{blocks_in}
use Rattle.stage_core.specs.Events.{history}
use Rattle.stage_core.specs.declared.message.What.{What}
use Rattle.grid_run.specs.Backs.{AreSeatedOn, AreWaiting, followed_by, queue_seats, sent_for}
use Rattle.grid_run.specs.Backs.{sent_on_side}
use Rattle.grid_run.specs.Senders.{seat_on, seats_at}
use Rattle.grid_run.specs.Fronts.{FrontAt, front_rules}
use Rattle.grid_run.specs.Seats.{SeatRules, rules_of_seat}
use Rattle.grid_run.specs.Sending.{event_of}
use Rattle.grid_run.specs.declared.front.Front.{Front}
use Rattle.grid_run.proofs.Behind.{waiting-same, nothing-asked}
use Rattle.grid_run.proofs.Events.{few-served, history-one, sent-one}
use Rattle.grid_run.proofs.StayNumbered.{queues-same}
use Rattle.grid_run.proofs.first_levels.serve_side.Goals as goal

pub returns-then-serve_again-clause-stands : goal.returns-then-serve_again-clause-stands
returns-then-serve_again-clause-stands c = λ es all.
    subst (λ (h : History). All (FrontAt (blocks_in c.args.numbers.now) h)
    c.serve_again.new.fronts.items)
    (history-one c.args.side es c.args.event c.in-Some.request c.in-Some.ensures)
    (c.if-serve_again.ensures.stands refl _ (history c.args.side es) all)

pub returns-then-serve_again-clause-asked : goal.returns-then-serve_again-clause-asked
returns-then-serve_again-clause-asked c = λ given es before all was.
    let s = c.args.side in
    let q = c.in-Some.request in
    let bs = c.args.queues.now.items in
    let fronts : SeatRules = map front_rules c.args.fronts.now.items in
    let again = c.if-serve_again.ensures in
    waiting-same given (followed_by before (sent_for s fronts (history s es) (event_of q)))
    (followed_by before (sent_on_side s fronts es c.args.event)) bs
    (λ k b j lt inside.
    let t = seats_at (get_or bs k b).users.items j in
    ap (λ (ws : List What). before t ++ ws)
    (sent-one s es c.args.event (rules_of_seat fronts (seat_on s t)) q c.in-Some.ensures))
    (nothing-asked c.serve_again.new.fronts.items fronts c.serve_again.ensures.rules s bs
    c.requires.placed (again.silent refl) (history s es) q (again.sent refl _ (history s es) all)
    given before was)

pub returns-then-serve_again-clause-numbers : goal.returns-then-serve_again-clause-numbers
returns-then-serve_again-clause-numbers c = queues-same _ _

pub serve_again-requires : goal.serve_again-requires
serve_again-requires c =
    let room = c.requires.room in
    record {
      room = (_, history c.args.side room.0, room.1, few-served c.args.side room.0 room.2);
    }

pub serve_request-requires-clause-placed : goal.serve_request-requires-clause-placed
serve_request-requires-clause-placed c =
    subst (λ (fs : SeatRules). All (AreSeatedOn c.args.side fs)
    (map queue_seats c.args.queues.now.items)) (sym c.serve_again.ensures.rules) c.requires.placed

pub serve_request-requires-clause-room : goal.serve_request-requires-clause-room
serve_request-requires-clause-room c =
    let room = c.requires.room in
    let past = history c.args.side room.0 in (
      past,
      subst (λ (fs : List Front). All (FrontAt (blocks_in c.args.numbers.now) past) fs)
          (sym (c.if-serve_again.ensures.leaves refl)) room.1,
      few-served c.args.side room.0 room.2,
    )

pub returns-clause-stands : goal.returns-clause-stands
returns-clause-stands c =
    on_ok_weaker c.serve_request.result (λ served es all.
    let past = history c.args.side es in
    subst (λ (h : History). All (FrontAt (blocks_in c.serve_request.new.numbers) h)
    c.serve_request.new.fronts.items)
    (history-one c.args.side es c.args.event c.in-Some.request c.in-Some.ensures)
    (served past (subst (λ (fs : List Front). All (FrontAt (blocks_in c.args.numbers.now) past) fs)
    (sym (c.if-serve_again.ensures.leaves refl)) all))) c.serve_request.ensures.stands

pub returns-clause-asked : goal.returns-clause-asked
returns-clause-asked c =
    let s = c.args.side in
    let q = c.in-Some.request in
    let bs = c.serve_request.new.queues.items in
    let fronts : SeatRules = map front_rules c.args.fronts.now.items in
    let leaves = c.if-serve_again.ensures.leaves refl in
    on_ok_weaker c.serve_request.result (λ asked given es before all was.
    let past = history s es in
    let there = subst (λ (fs : List Front). All (FrontAt (blocks_in c.args.numbers.now) past) fs)
    (sym leaves) all in
    waiting-same given (followed_by before (sent_for s fronts past (event_of q)))
    (followed_by before (sent_on_side s fronts es c.args.event)) bs
    (λ k b j lt inside.
    let t = seats_at (get_or bs k b).users.items j in
    ap (λ (ws : List What). before t ++ ws)
    (sent-one s es c.args.event (rules_of_seat fronts (seat_on s t)) q c.in-Some.ensures))
    (subst (λ (fs : SeatRules). All (AreWaiting given (followed_by before (sent_for s fs past
    (event_of q)))) bs) c.serve_again.ensures.rules (asked given past before there was)))
    c.serve_request.ensures.asked
