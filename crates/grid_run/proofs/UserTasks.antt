-- Which user of second levels is at an index.
use Rattle.std.proofs.Common.{◌≡◌, ℕ, ◌+◌, ◌-◌, ◌<◌, ◌≤◌, List, ◌++◌, length, get_or}
use Rattle.std.proofs.Common.{ap, sym, ◌∙◌, arith}
use Rattle.std.proofs.lemmas.List.{get_or-append-add, get_or-map, get_or_append_left, length-map}
use Rattle.grid_run.specs.Backs.{BackTask, back_seats, back_task, each_task}
use Rattle.grid_run.specs.Senders.{no_seats}
use Rattle.grid_run.specs.Backs.{seats_of_task, task_at}
use Rattle.grid_run.specs.Banks.{IsUserAt}
use Rattle.grid_run.specs.SecondCaches.{second_rules}
use Rattle.grid_run.specs.declared.back.Back.{Back}

module _ (xs ys : List BackTask) (index : ℕ) (b : Back) (k : ℕ) where
  -- among the first of them
  pub user-front : index < length xs → IsUserAt xs index b k → IsUserAt (xs ++ ys) index b k
  user-front lt at = record {
    inside = at.inside;
    seats = λ d. ap seats_of_task (get_or_append_left xs ys d index lt) ∙ at.seats d;
    rules = λ d. ap (λ (t : BackTask). t.rules) (get_or_append_left xs ys d index lt)
        ∙ at.rules d;
  }

  -- or behind them
  pub user-behind : length xs ≤ index → IsUserAt ys (index - length xs) b k
      → IsUserAt (xs ++ ys) index b k
  user-behind le at =
      let there : length xs + (index - length xs) ≡ index = omega (arith, le) in
      let same = λ (d : BackTask). ap (λ i. get_or (xs ++ ys) i d) (sym there)
      ∙ get_or-append-add xs ys (index - length xs) d in
      record {
        inside = at.inside;
        seats = λ d. ap seats_of_task (same d) ∙ at.seats d;
        rules = λ d. ap (λ (t : BackTask). t.rules) (same d) ∙ at.rules d;
      }

module _ (b : Back) where
  -- second levels have as many tasks as users
  pub each-long : length (each_task (back_task b)) ≡ length b.users.items
  unfolding back_task back_seats
  each-long = length-map b.users.items (task_at (second_rules b.second.caches))

  -- and those of its users, in their order
  pub user-of : (k : ℕ) → k < length b.users.items → IsUserAt (each_task (back_task b)) k b k
  unfolding back_task back_seats
  user-of k lt =
      let f = task_at (second_rules b.second.caches) in
      let at = λ (d : BackTask). get_or-map f b.users.items k no_seats d lt in
      record {
        inside = lt;
        seats = λ d. ap seats_of_task (at d);
        rules = λ d. ap (λ (t : BackTask). t.rules) (at d);
      }
