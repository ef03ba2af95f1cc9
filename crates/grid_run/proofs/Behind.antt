-- What second levels get from a cache in front of them.
use Rattle.std.proofs.Common.{◌≡◌, ◌<◌, ℕ, List, [], ◌∷◌, length, get_or, map, ap, sym, subst}
use Rattle.std.proofs.Common.{◌∙◌, ◌++◌, append-nil, arith}
use Rattle.std.specs.List.{All}
use Rattle.std.proofs.lemmas.List.{get_or-map, get_or_default, length-map}
use Rattle.cache_core.specs.History.{History, Rules}
use Rattle.grid_core.specs.Written.{rules_at_index}
use Rattle.grid_core.proofs.ListLoops.{told-at}
use Rattle.stage_core.specs.SecondLevel.{parts_of}
use Rattle.stage_core.specs.declared.message.Side.{Side}
use Rattle.stage_core.specs.declared.message.What.{What}
use Rattle.grid_run.specs.Backs.{AreSeatedOn, AreWaiting, IsSeatIn, IsSeatedOn, RequestsFor}
use Rattle.grid_run.specs.Backs.{followed_by, queue_seats, sent_for}
use Rattle.grid_run.specs.Senders.{no_seats, seat_on, seats_at}
use Rattle.grid_run.specs.Fronts.{HasSent, IsSilent, front_rules}
use Rattle.grid_run.specs.Seats.{SeatRules, rules_of_seat}
use Rattle.grid_run.specs.Sending.{event_of}
use Rattle.grid_run.specs.declared.front.Front.{Front}
use Rattle.grid_run.specs.declared.queue.Queue.{Queue}
use Rattle.grid_run.specs.declared.requests.Request.{Request}
use Rattle.grid_run.specs.declared.seat.Seat.{Seat}
use Rattle.grid_run.proofs.Sent.{sent-by-silent}

module _ (fs : List Front) (seat : Seat) (f : Front) (at : f ≡ get_or fs seat.family f)
    (placed : IsSeatIn (map front_rules fs) seat) where
  -- there are caches at the family of the seat
  family-inside : seat.family < length fs
  family-inside = omega (arith, placed.family, length-map fs front_rules)

  rules-there : get_or (map front_rules fs) seat.family [] ≡ front_rules f
  rules-there = get_or-map front_rules fs seat.family f [] family-inside ∙ ap front_rules (sym at)

  -- and one at its cell
  pub cell-inside : seat.cell < length (front_rules f)
  cell-inside = subst (λ (rs : List Rules). seat.cell < length rs) rules-there placed.cell

  -- it has the rules of the seat
  pub rules-seated : rules_at_index (front_rules f) seat.cell
      ≡ rules_of_seat (map front_rules fs) seat
  rules-seated = ap (λ (rs : List Rules). rules_at_index rs seat.cell) (sym rules-there)

  -- what holds of all holds of the caches at the seat
  pub at-seat : (P : Front → Type 0) → All P fs → P f
  at-seat P all = subst P (sym at) (all seat.family f family-inside)

-- there is a first element where an index is inside
pub some-of : {X : Type 0} (xs : List X) (k : ℕ) → k < length xs → X
some-of (x ∷ xs) k lt = x
some-of [] k lt = absurd (omega arith)

-- silent caches at a seat send nothing
pub silent-at-seat : (fs : List Front) (seat : Seat) → IsSeatIn (map front_rules fs) seat
    → All IsSilent fs → (s : Side) (h : History) (q : Request) → All (HasSent h q) fs
    → parts_of (rules_of_seat (map front_rules fs) seat) s h (event_of q) ≡ []
silent-at-seat fs seat on silent s h q sent =
    let inside : seat.family < length fs =
    omega (arith, on.family, length-map fs front_rules) in
    let x = some-of fs seat.family inside in
    let f = get_or fs seat.family x in
    let at : f ≡ get_or fs seat.family f = get_or_default fs seat.family x f inside in
    ap (λ (r : Rules). parts_of r s h (event_of q)) (sym (rules-seated fs seat f at on))
    ∙ sent-by-silent f h seat.cell s q (cell-inside fs seat f at on)
    (at-seat fs seat f at on IsSilent silent) (at-seat fs seat f at on (HasSent h q) sent)

-- what waits of some requests waits of others that are the same
pub waiting-same : (given before after : RequestsFor) (qs : List Queue)
    → ((k : ℕ) (q : Queue) (j : ℕ) → k < length qs → j < length (get_or qs k q).users.items
    → before (seats_at (get_or qs k q).users.items j)
    ≡ after (seats_at (get_or qs k q).users.items j))
    → All (AreWaiting given before) qs → All (AreWaiting given after) qs
waiting-same given before after qs same all k q lt =
    record { all = λ j inside. sym (same k q j lt inside) ∙ (all k q lt).all j inside }

-- silent caches of a side ask for nothing
pub nothing-asked : (fs : List Front) (old : SeatRules) → map front_rules fs ≡ old → (s : Side)
    (qs : List Queue) → All (AreSeatedOn s old) (map queue_seats qs) → All IsSilent fs
    → (h : History) (q : Request) → All (HasSent h q) fs
    → (given before : RequestsFor) → All (AreWaiting given before) qs
    → All (AreWaiting given (followed_by before (sent_for s old h (event_of q)))) qs
unfolding queue_seats
nothing-asked fs old rules s qs placed silent h q sent given before =
    waiting-same given before (followed_by before (sent_for s old h (event_of q))) qs
    (λ k d j lt inside.
    let p = seats_at (get_or qs k d).users.items j in
    let on = (told-at queue_seats (AreSeatedOn s old) qs placed k d lt).each j no_seats inside in
    let none : parts_of (rules_of_seat old (seat_on s p)) s h (event_of q) ≡ [] =
    subst (λ (rs : SeatRules). parts_of (rules_of_seat rs (seat_on s p)) s h (event_of q) ≡ [])
    rules
    (silent-at-seat fs (seat_on s p)
    (subst (λ (rs : SeatRules). IsSeatedOn s rs p) (sym rules) on).seat silent s h q sent) in
    sym (append-nil (before p)) ∙ ap (λ (ws : List What). before p ++ ws) (sym none))
