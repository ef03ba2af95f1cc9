use Rattle.std.proofs.Common.{◌≡◌, ◌∷◌, List, map, ap, sym, refl, subst, ◌∙◌}
use Rattle.std.specs.List.{All}
use Rattle.std.proofs.lemmas.Result.{on_ok_weaker}
use Rattle.grid_core.specs.Numbered.{blocks_in}
use Rattle.grid_run.specs.Backs.{AreSeatedOn, AreWaiting, QueuesStayNumbered, followed_by}
use Rattle.grid_run.specs.Backs.{queue_seats, sent_for}
use Rattle.grid_run.specs.Fronts.{HasSent, IsSilent, KnowsLast, front_rules}
use Rattle.grid_run.specs.Seats.{SeatRules}
use Rattle.grid_run.specs.Sending.{event_of}
use Rattle.grid_run.specs.declared.front.Front.{Front}
use Rattle.grid_run.proofs.Behind.{nothing-asked}
use Rattle.grid_run.proofs.MoreNumbers.{fronts-more}
use Rattle.grid_run.proofs.StayNumbered.{queues-more, queues-on}
use Rattle.grid_run.proofs.first_levels.serve_request.Goals as goal

pub returns-then-are_silent-clause-asked : goal.returns-then-are_silent-clause-asked
returns-then-are_silent-clause-asked c = λ given h before all was.
    let q = c.args.request in
    let bs = c.args.queues.now.items in
    let old : SeatRules = map front_rules c.args.fronts.now.items in
    let silent = subst (λ (l : List Front). All IsSilent l) c.deref.ensures.value
    (c.if-are_silent.ensures refl) in
    nothing-asked c.serve_fronts.new.fronts.items old c.serve_fronts.ensures.rules c.args.side bs
    c.requires.placed silent h q (c.in_ok-serve_fronts.ensures.sent h all) given before was

pub returns-then-are_silent-clause-numbers : goal.returns-then-are_silent-clause-numbers
returns-then-are_silent-clause-numbers c =
    queues-more _ _ _ c.in_ok-serve_fronts.ensures.grows

pub ask_queues-requires-clause-placed : goal.ask_queues-requires-clause-placed
ask_queues-requires-clause-placed c =
    let same = ap (map front_rules) c.deref-2.ensures.value ∙ c.serve_fronts.ensures.rules in
    subst (λ (fs : SeatRules). All (AreSeatedOn c.args.side fs)
    (map queue_seats c.args.queues.now.items)) (sym same) c.requires.placed

pub ask_queues-requires-clause-sent : goal.ask_queues-requires-clause-sent
ask_queues-requires-clause-sent c =
    let room = c.requires.room in
    let q = c.args.request in (
      room.0,
      q,
      subst (λ (l : List Front). All (HasSent room.0 q) l) (sym c.deref-2.ensures.value)
          (c.in_ok-serve_fronts.ensures.sent room.0 room.1),
    )

pub ask_queues-requires-clause-known : goal.ask_queues-requires-clause-known
ask_queues-requires-clause-known c =
    let room = c.requires.room in
    let blocks = blocks_in c.serve_fronts.new.numbers in
    subst (λ (l : List Front). All (KnowsLast blocks) l) (sym c.deref-2.ensures.value)
    (λ k d lt. (c.in_ok-serve_fronts.ensures.stands room.0 room.1 k d lt).last)

pub returns-clause-stands : goal.returns-clause-stands
returns-clause-stands c =
    on_ok_weaker c.ask_queues.result (λ (numbers : QueuesStayNumbered _ _ _ _). λ h all.
    fronts-more _ _ numbers.grows (event_of c.args.request ∷ h) c.serve_fronts.new.fronts.items
    (c.in_ok-serve_fronts.ensures.stands h all)) c.ask_queues.ensures.numbers

pub returns-clause-numbers : goal.returns-clause-numbers
returns-clause-numbers c =
    on_ok_weaker c.ask_queues.result
    (queues-on (queues-more _ _ _ c.in_ok-serve_fronts.ensures.grows))
    c.ask_queues.ensures.numbers

pub returns-clause-asked : goal.returns-clause-asked
returns-clause-asked c =
    let s = c.args.side in
    let q = c.args.request in
    let bs = c.ask_queues.new.queues.items in
    let old : SeatRules = map front_rules c.args.fronts.now.items in
    let now : SeatRules = map front_rules c.deref-2.result.now in
    let same : now ≡ old = ap (map front_rules) c.deref-2.ensures.value
    ∙ c.serve_fronts.ensures.rules in
    on_ok_weaker c.ask_queues.result (λ asked given h before all was.
    let sent = subst (λ (l : List Front). All (HasSent h q) l) (sym c.deref-2.ensures.value)
    (c.in_ok-serve_fronts.ensures.sent h all) in
    subst (λ (fs : SeatRules). All (AreWaiting given (followed_by before (sent_for s fs h
    (event_of q)))) bs)
    same (asked given h q before sent was)) c.ask_queues.ensures.asked
