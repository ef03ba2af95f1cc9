use Rattle.std.proofs.Common.{◌≡◌, ℕ, ◌<◌, ◌++◌, List, length, get_or, map, ap, sym, subst, ◌∙◌}
use Rattle.std.proofs.Common.{append_assoc, arith, rules}
use Rattle.std.proofs.Math.Dec.{ltb}
use Rattle.std.proofs.lemmas.Bool.{lt-ltb, ltb-true}
use Rattle.std.proofs.lemmas.Result.{on_ok_weaker}
use Rattle.cache_core.specs.History.{Rules}
use Rattle.std.specs.List.{All}
use Rattle.std.proofs.lemmas.List.{length-map}
use Rattle.grid_core.specs.Numbered.{blocks_in}
use Rattle.grid_core.specs.Written.{rules_at_index}
use Rattle.stage_core.specs.SecondLevel.{parts_of}
use Rattle.stage_core.specs.declared.message.Side.{Side}
use Rattle.stage_core.specs.declared.message.What.{What}
use Rattle.grid_run.specs.Backs.{AreSeatedOn, IsSeatIn, queue_seats, sent_for}
use Rattle.grid_run.specs.Fronts.{HasSent, KnowsLast, front_rules}
use Rattle.grid_run.specs.Numbering.{sent_to}
use Rattle.grid_run.specs.Seats.{rules_of_seat}
use Rattle.grid_run.specs.Senders.{AreCellsOf, AreSendersTo, cells_for, no_seats, seat_on, seats_at}
use Rattle.grid_run.specs.Sending.{event_of}
use Rattle.grid_run.specs.declared.front.Front.{Front}
use Rattle.grid_run.specs.declared.queue.Queue.{Queue}
use Rattle.grid_run.specs.declared.seat.Seat.{Seat}
use Rattle.grid_run.specs.declared.senders.Senders.{Senders}
use Rattle.grid_run.proofs.Behind.{at-seat, cell-inside, rules-seated}
use Rattle.grid_run.proofs.queue.Queue.ask.Goals as goal

-- the caches of a side that send to a queue
module _ (fs : List Front) (s : Side) (q : Queue) (t : Senders)
    (are : AreSendersTo s q.users.items t)
    (placed : AreSeatedOn s (map front_rules fs) (queue_seats q)) where
  -- the seat in front of a user is one of the family that sends
  abbrev seat : ℕ → Seat
  seat k = record { family = t.family; cell = (seat_on s (seats_at q.users.items k)).cell }

  same-seat : (k : ℕ) → k < length q.users.items → seat_on s (seats_at q.users.items k) ≡ seat k
  same-seat k lt =
      ap (λ n. record { family = n; cell = (seat_on s (seats_at q.users.items k)).cell })
      (are.family k lt)

  placed-at : (k : ℕ) → k < length q.users.items → IsSeatIn (map front_rules fs) (seat k)
  unfolding queue_seats
  placed-at k lt =
      subst (IsSeatIn (map front_rules fs)) (same-seat k lt) (placed.each k no_seats lt).seat

  -- there is such a family
  family-there : t.family < length fs
  family-there =
      omega (arith, (placed-at 0 q.share.some).family, length-map fs front_rules)

  module _ (f : Front) (at : f ≡ get_or fs t.family f) where
    -- what holds of all fronts holds of the one that sends
    of-front : (P : Front → Type 0) → All P fs → P f
    of-front P all = at-seat fs (seat 0) f at (placed-at 0 q.share.some) P all

    -- all cells that send are those of its caches
    are-cells : AreCellsOf (front_rules f) t.each.items
    are-cells k x lt =
        ltb-true _ (length (front_rules f))
        (are.inside (λ n. ltb n (length (front_rules f)))
        (λ j below. lt-ltb _ (length (front_rules f))
        (cell-inside fs (seat j) f at (placed-at j below))) k x lt)

    -- the rules at the seat of a user are those of its cell
    rules-at : (k : ℕ) → k < length q.users.items → rules_at_index (front_rules f) (seat k).cell
        ≡ rules_of_seat (map front_rules fs) (seat_on s (seats_at q.users.items k))
    rules-at k lt =
        rules-seated fs (seat k) f at (placed-at k lt)
        ∙ ap (rules_of_seat (map front_rules fs)) (sym (same-seat k lt))

pub bounds-fronts-senders : goal.bounds-fronts-senders
bounds-fronts-senders c =
    let q = c.args.self.now in
    let are = c.of_side-senders.ensures q.users.items q.from_i q.from_d in
    family-there c.args.fronts.now c.args.side q c.of_side-senders.result.now are c.requires.placed

pub offset_bounds-fronts-senders : goal.offset_bounds-fronts-senders
offset_bounds-fronts-senders c =
    let q = c.args.self.now in
    let are = c.of_side-senders.ensures q.users.items q.from_i q.from_d in
    let there = family-there c.args.fronts.now c.args.side q c.of_side-senders.result.now are
    c.requires.placed in
    search rules

pub send-requires-clause-inside : goal.send-requires-clause-inside
send-requires-clause-inside c =
    let q = c.args.self.now in
    let t = c.of_side-senders.result.now in
    let f = c.index-fronts-senders.result in
    let are = c.of_side-senders.ensures q.users.items q.from_i q.from_d in
    subst (AreCellsOf (front_rules f)) (sym c.deref.ensures.value)
    (are-cells c.args.fronts.now c.args.side q t are c.requires.placed f c.index-fronts-senders.is)

pub send-requires-clause-last : goal.send-requires-clause-last
send-requires-clause-last c =
    let q = c.args.self.now in
    let t = c.of_side-senders.result.now in
    let are = c.of_side-senders.ensures q.users.items q.from_i q.from_d in
    let sent = c.requires.sent in (
      sent.0,
      sent.1,
      of-front c.args.fronts.now c.args.side q t are c.requires.placed
          c.index-fronts-senders.result c.index-fronts-senders.is (HasSent sent.0 sent.1) sent.2,
    )

pub send-requires-clause-known : goal.send-requires-clause-known
send-requires-clause-known c =
    let q = c.args.self.now in
    let t = c.of_side-senders.result.now in
    let are = c.of_side-senders.ensures q.users.items q.from_i q.from_d in
    (of-front c.args.fronts.now c.args.side q t are c.requires.placed
    c.index-fronts-senders.result c.index-fronts-senders.is
    (KnowsLast (blocks_in c.args.numbers.now)) c.requires.known).known

pub returns-clause-asked : goal.returns-clause-asked
returns-clause-asked c =
    let fs = c.args.fronts.now in
    let s = c.args.side in
    let q = c.args.self.now in
    let t = c.of_side-senders.result.now in
    let f = c.index-fronts-senders.result in
    let at = c.index-fronts-senders.is in
    let are = c.of_side-senders.ensures q.users.items q.from_i q.from_d in
    on_ok_weaker c.send.result (λ sends given h e before sent waiting. record {
      all = λ k lt.
          let p = seats_at q.users.items k in
          let last = of-front fs s q t are c.requires.placed f at (HasSent h e) sent in
          let old = sent_to k q.waiting.items in
          let cells = ap (cells_for k) c.deref.ensures.value ∙ are.cells k lt in
          let more = sends h e last k (seat_on s p).cell cells
          ∙ ap (λ (r : Rules). old ++ parts_of r s h (event_of e))
          (rules-at fs s q t are c.requires.placed f at k lt) in
          ap (λ (ws : List What). ws ++ sent_for s (map front_rules fs) h (event_of e) p)
          (waiting.all k lt)
          ∙ append_assoc (given p) old (sent_for s (map front_rules fs) h (event_of e) p)
          ∙ ap (λ (ws : List What). given p ++ ws) (sym more);
    }) c.send.ensures.sent
