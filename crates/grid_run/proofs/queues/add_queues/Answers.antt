use Rattle.std.proofs.Common.{◌≡◌, ◌++◌, ◌∷◌, [], List, map, take, ap, sym, ◌∙◌, append_assoc}
use Rattle.std.proofs.lemmas.List.{map-append, map_more}
use Rattle.grid_run.specs.Backs.{HasNone, SharedSeats, back_seats, queue_seats}
use Rattle.grid_run.specs.declared.seat.BothSeats.{BothSeats}
use Rattle.grid_run.proofs.Growing.{all-push}
use Rattle.grid_run.proofs.queues.add_queues.Goals as goal

pub loop-back-preserved : goal.loop-back-preserved
unfolding back_seats
loop-back-preserved c =
    let now = c.loop-back.invariant in
    let xs = c.args.backs.now in
    let i = c.loop-back.back-index in
    let b = c.back-item.result in
    let q = c.in_ok-queue.queue in
    let start = map queue_seats c.args.queues.now.items in
    let old = c.loop-back.queues.items in
    let joined = c.in_ok-add_to.ensures.joined in
    let same : queue_seats q ≡ back_seats b = c.in_ok-queue.ensures.seats
    ∙ ap (λ (ps : List BothSeats). record { first = b.first; users = ps }) c.deref.ensures.value in
    record {
      seats = ap (map queue_seats) joined ∙ map-append queue_seats old (q ∷ [])
          ∙ ap (λ (l : List SharedSeats). l ++ queue_seats q ∷ []) now.seats
          ∙ append_assoc start (map back_seats (take i xs)) (queue_seats q ∷ [])
          ∙ ap (λ (p : SharedSeats). start ++ (map back_seats (take i xs) ++ p ∷ []))
          (same ∙ ap back_seats c.back-item.is)
          ∙ ap (λ (l : List SharedSeats). start ++ l)
          (sym (map_more back_seats xs i b c.loop-back-test.true));
      none = λ all. all-push HasNone old c.add_to.new.list.items q joined (now.none all)
          c.in_ok-queue.ensures.none;
    }
