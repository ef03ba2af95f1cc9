-- Second levels in banks, each of which one thread serves.
use Rattle.std.specs.Prelude.{◌≡◌, ◌<◌, ℕ, List, get_or, length, map}
use Rattle.std.specs.List.{All, flat_map}
use Rattle.grid_run.specs.Backs.{BackTask, NothingWaits, RequestsFor, SharedTask, WereAsked}
use Rattle.grid_run.specs.Backs.{back_task, each_task, seats_of_task}
use Rattle.grid_run.specs.Senders.{seats_at}
use Rattle.grid_run.specs.SecondCaches.{second_rules}
use Rattle.grid_run.specs.declared.back.Back.{Back}
use Rattle.grid_run.specs.declared.bank.Bank.{Bank}

-- what the second levels of a bank do
unfoldable pub bank_task : Bank → List SharedTask
bank_task b = map back_task b.backs.items

-- what those of all banks do
abbrev pub tasks_of_banks : List Bank → List SharedTask
tasks_of_banks bs = flat_map bank_task bs

-- what each user of these does
abbrev pub each_of : List SharedTask → List BackTask
each_of ts = flat_map each_task ts

-- of these tasks, the one at an index is that of user k of these second levels
pub record IsUserAt (ts : List BackTask) (index : ℕ) (b : Back) (k : ℕ) : Type 0 where
  pub inside : k < length b.users.items
  pub seats : (d : BackTask) → seats_of_task (get_or ts index d) ≡ seats_at b.users.items k
  pub rules : (d : BackTask) → (get_or ts index d).rules ≡ second_rules b.second.caches

-- the second levels of a bank were asked for the requests of their seats, and have served some by
-- the numbers that the places of a list of blocks are
pub record WasAsked (blocks : List ℕ) (requests : RequestsFor) (b : Bank) : Type 0 where
  pub each : All (WereAsked blocks requests) b.backs.items

-- no request waits for the second levels of a bank
pub record NothingWaitsIn (b : Bank) : Type 0 where
  pub each : All NothingWaits b.backs.items

-- banks have served all that waited for them
pub record HaveServed (old new : List Bank) : Type 0 where
  pub asked : (blocks : List ℕ) (requests : RequestsFor) → All (WasAsked blocks requests) old
      → All (WasAsked blocks requests) new
  pub settled : All NothingWaitsIn new
