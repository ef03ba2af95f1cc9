-- Shelves whose second levels can share a queue.
use Rattle.std.specs.Prelude.{◌≡◌, ℕ, List, length, map, get_or}
use Rattle.std.specs.List.{All}
use Rattle.grid_run.specs.Backs.{NothingWaits, WereAsked, back_task, each_task, no_requests}
use Rattle.grid_run.specs.Backs.{task_of_shelf}
use Rattle.grid_run.specs.Seats.{rules_on}
use Rattle.grid_run.specs.declared.back.Back.{Back}
use Rattle.grid_run.specs.declared.plan.BackShelf.{BackShelf}

-- second levels of these two shelves have the same caches, behind caches of the same families
pub record IsAlike (s t : BackShelf) : Type 0 where
  pub on_i : t.i.family ≡ s.i.family
  pub on_d : t.d.family ≡ s.d.family
  pub rules : rules_on t.shelf ≡ rules_on s.shelf

-- so have those of all these shelves
abbrev pub AreAlike : List BackShelf → Type 0
AreAlike ss = (d : BackShelf) → All (IsAlike (get_or ss 0 d)) ss

-- these are empty second levels for these shelves
pub record IsBackFor (ss : List BackShelf) (b : Back) : Type 0 where
  pub tasks : each_task (back_task b) ≡ map task_of_shelf ss
  pub asked : (blocks : List ℕ) → WereAsked blocks no_requests b
  pub settled : NothingWaits b
  pub users : length b.users.items ≡ length ss
