-- Shelves whose second levels share a queue.
use Rattle.std.proofs.Common.{◌≡◌, ◌<◌, ◌≤◌, List, [], ◌∷◌, length, get_or, map, ap, sym, refl}
use Rattle.std.proofs.Common.{◌∙◌, arith}
use Rattle.std.specs.List.{All}
use Rattle.std.proofs.lemmas.List.{get_or-map, length-map}
use Rattle.std.proofs.lemmas.List.Elements.{All-head, All-tail}
use Rattle.cache_core.specs.History.{Rules}
use Rattle.stage_core.specs.declared.message.Side.{Side}
use Rattle.stage_core.specs.declared.message.Side.TheVariants as side
use Rattle.grid_run.specs.Alike.{AreAlike, IsAlike}
use Rattle.grid_run.specs.Backs.{BackTask, seats_of_task, task_at, task_of_shelf}
use Rattle.grid_run.specs.Seats.{rules_on}
use Rattle.grid_run.specs.Senders.{MayShare, no_seats, seat_on}
use Rattle.grid_run.specs.declared.plan.BackShelf.{BackShelf}
use Rattle.grid_run.specs.declared.seat.BothSeats.{BothSeats}
use Rattle.grid_run.proofs.Behind.{some-of}

-- the seats in front of the second levels of a shelf
abbrev pub seats_before : BackShelf → BothSeats
seats_before shelf = seats_of_task (task_of_shelf shelf)

same-family : (s : Side) (x y : BackShelf) → IsAlike x y
    → (seat_on s (seats_before y)).family ≡ (seat_on s (seats_before x)).family
unfolding task_of_shelf
same-family side.I x y alike = alike.on_i
same-family side.D x y alike = alike.on_d

-- alike shelves may share a queue
pub may-share : (ss : List BackShelf) → 0 < length ss → length ss ≤ 32 → AreAlike ss
    → MayShare (map seats_before ss)
may-share ss some few alike =
    let first = some-of ss 0 some in
    record {
      some = omega (arith, some, length-map ss seats_before);
      few = omega (arith, few, length-map ss seats_before);
      family = λ s k lt.
          let inside : k < length ss = omega (arith, lt, length-map ss seats_before) in
          ap (λ (p : BothSeats). (seat_on s p).family)
          (get_or-map seats_before ss k first no_seats inside)
          ∙ same-family s (get_or ss 0 first) (get_or ss k first) (alike first k first inside)
          ∙ sym (ap (λ (p : BothSeats). (seat_on s p).family)
          (get_or-map seats_before ss 0 first no_seats some));
    }

task-same : (rs : List Rules) (s : BackShelf) → rules_on s.shelf ≡ rs
    → task_at rs (seats_before s) ≡ task_of_shelf s
unfolding task_of_shelf
task-same rs s is = ap (λ r. record { i = s.i; d = s.d; rules = r }) (sym is)

-- what users behind the seats of shelves of these rules do, is what the shelves ask
pub tasks-same : (rs : List Rules) (ss : List BackShelf)
    → All (λ (s : BackShelf). rules_on s.shelf ≡ rs) ss
    → map (task_at rs) (map seats_before ss) ≡ map task_of_shelf ss
tasks-same rs [] all = refl
tasks-same rs (s ∷ ss) all =
    ap (λ (t : BackTask). t ∷ map (task_at rs) (map seats_before ss))
    (task-same rs s (All-head (λ (x : BackShelf). rules_on x.shelf ≡ rs) s ss all))
    ∙ ap (λ (ts : List BackTask). task_of_shelf s ∷ ts)
    (tasks-same rs ss (All-tail (λ (x : BackShelf). rules_on x.shelf ≡ rs) s ss all))
