use Rattle.std.proofs.Common.{◌≡◌, ◌++◌, List, length, ap, refl, sym, subst, ◌∙◌, arith}
use Rattle.std.specs.List.{All}
use Rattle.cache_core.specs.Geometry.{bsize_of}
use Rattle.grid_run.specs.Backs.{SharedSeats, back_seats, queue_seats}
use Rattle.grid_run.specs.Numbering.{IsNumbered, sent_to}
use Rattle.grid_run.specs.SecondCaches.{second_users}
use Rattle.grid_run.specs.Senders.{seats_at}
use Rattle.grid_run.specs.declared.second_caches.SecondCaches.{SecondCaches}
use Rattle.grid_run.specs.declared.seat.BothSeats.{BothSeats}
use Rattle.grid_run.proofs.Rooms.{asked-alike}
use Rattle.grid_run.proofs.back.Back.take_over.Goals as goal

pub returns-clause-seats : goal.returns-clause-seats
unfolding queue_seats
returns-clause-seats c = refl

pub returns-clause-asked : goal.returns-clause-asked
unfolding queue_seats back_seats
returns-clause-asked c = λ blocks served all waiting numbered were.
    let old = c.args.self.now in
    let new = c.swap_waiting.new.self in
    let ws = c.args.queue.now.waiting.items in
    let same : c.args.queue.now.users.items ≡ old.users.items =
    ap (λ (s : SharedSeats). s.users) c.requires.seats in
    let bytes = ap (λ (s : SharedSeats). bsize_of s.first) c.requires.seats ∙ sym old.sized in
    record {
      second = asked-alike blocks new
          (λ k. served (seats_at old.users.items k) ++ sent_to k ws)
          (λ k. all (seats_at old.users.items k))
          (λ k lt. subst (λ (ps : List BothSeats). all (seats_at ps k)
          ≡ served (seats_at ps k) ++ sent_to k ws) same
          (waiting.all k (omega (
            arith,
            lt,
            ap length same,
            old.as_many,
            ap (λ (u : SecondCaches). second_users u) c.swap_waiting.ensures.caches,
          ))))
          (c.swap_waiting.ensures.asked blocks (λ k. served (seats_at old.users.items k))
          (subst (λ n. All (IsNumbered blocks n) ws) bytes numbered.each) were.second);
    }
