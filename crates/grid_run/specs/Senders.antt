-- The first-level caches of a side that send to the users of a queue.
use Rattle.std.specs.Prelude.{◌≡◌, ℕ, ◌<◌, ◌≤◌, List, [], ◌∷◌, ◌++◌, length, get_or}
use Rattle.std.specs.Prelude.{Bool, true, if◌then◌else◌}
use Rattle.std.specs.List.{All, flat_map}
use Rattle.cache_core.specs.History.{Event, History, Rules}
use Rattle.shared_list.specs.Users.{is_user}
use Rattle.grid_core.specs.Written.{rules_at_index}
use Rattle.stage_core.specs.SecondLevel.{parts_of}
use Rattle.stage_core.specs.declared.message.Side.{Side}
use Rattle.stage_core.specs.declared.message.Side.TheVariants as side
use Rattle.grid_run.specs.Numbering.{sent_to}
use Rattle.grid_run.specs.declared.numbered.Numbered.{Numbered}
use Rattle.grid_run.specs.declared.seat.BothSeats.{BothSeats}
use Rattle.grid_run.specs.declared.seat.Seat.{Seat}
use Rattle.grid_run.specs.declared.senders.Sender.{Sender}
use Rattle.grid_run.specs.declared.senders.Senders.{Senders}

-- the seat on a side
abbrev pub seat_on : Side → BothSeats → Seat
seat_on side.I p = p.i
seat_on side.D p = p.d

-- some seats, where there are none
abbrev pub no_seats : BothSeats
no_seats = record {
  i = record { family = 0; cell = 0 };
  d = record { family = 0; cell = 0 };
}

-- the seats in front of user k
abbrev pub seats_at : List BothSeats → ℕ → BothSeats
seats_at ps k = get_or ps k no_seats

-- the cells of the caches that send to user k, in their order
abbrev pub cells_for : ℕ → List Sender → List ℕ
cells_for k xs = flat_map (λ x. if is_user x.users k then x.cell ∷ [] else []) xs

-- what holds of the cells at the seats of the first n users, holds of the cells of all these caches
abbrev pub HaveCells : Side → List BothSeats → ℕ → List Sender → Type 0
HaveCells s users n xs = (holds : ℕ → Bool)
    → ((k : ℕ) → k < n → holds (seat_on s (seats_at users k)).cell ≡ true)
    → All (λ x. holds x.cell ≡ true) xs

-- to each user one cache sends: the one at its seat
pub record AreSendersTo (s : Side) (users : List BothSeats) (t : Senders) : Type 0 where
  pub family : (k : ℕ) → k < length users → (seat_on s (seats_at users k)).family ≡ t.family
  pub cells : (k : ℕ) → k < length users
      → cells_for k t.each.items ≡ (seat_on s (seats_at users k)).cell ∷ []
  pub inside : HaveCells s users (length users) t.each.items

-- users can share a queue: they are not too many, and the caches in front of them, of each side,
-- are of one family
pub record MayShare (users : List BothSeats) : Type 0 where
  pub some : 0 < length users
  pub few : length users ≤ 32
  pub family : (s : Side) (k : ℕ) → k < length users
      → (seat_on s (seats_at users k)).family ≡ (seat_on s (seats_at users 0)).family

-- the cells are those of caches of these rules
abbrev pub AreCellsOf : List Rules → List Sender → Type 0
AreCellsOf rules xs = All (λ x. x.cell < length rules) xs

-- caches of these rules sent what they send for the event e, after the history h: to each user,
-- what the cache that sends to it does
abbrev pub AreSent : List Rules → Side → History → Event → List Sender → List Numbered
    → List Numbered → Type 0
AreSent rules s h e xs old new = (k cell : ℕ) → cells_for k xs ≡ cell ∷ []
    → sent_to k new ≡ sent_to k old ++ parts_of (rules_at_index rules cell) s h e
