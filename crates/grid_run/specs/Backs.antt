-- Second levels, each behind one cache of each side, that share a queue.
use Rattle.std.specs.Prelude.{◌≡◌, ◌<◌, ◌≤◌, ◌^◌, ◌++◌, ℕ, List, [], length, get_or, map}
use Rattle.std.specs.List.{All}
use Rattle.cache_core.specs.Geometry.{bsize_of}
use Rattle.cache_core.specs.History.{Event, History, Rules}
use Rattle.cache_core.specs.Lists.{IsBeginning}
use Rattle.cache_core.specs.declared.geometry.Geometry.{Geometry}
use Rattle.din_trace.specs.declared.record.DinRecord.{DinRecord}
use Rattle.stage_core.specs.SecondLevel.{Parts, parts_of, second_level_requests, sent_up}
use Rattle.stage_core.specs.declared.message.Side.{Side}
use Rattle.stage_core.specs.declared.message.Side.TheVariants as side
use Rattle.stage_core.specs.declared.message.What.{What}
use Rattle.grid_run.specs.Numbering.{IsNumbered, StayNumbered, sent_to}
use Rattle.grid_run.specs.Senders.{seat_on, seats_at}
use Rattle.grid_run.specs.Seats.{SeatRules, rules_of_seat, rules_on}
use Rattle.grid_run.specs.SecondCaches.{second_rules}
use Rattle.grid_run.specs.Sending.{NothingWaitsFor, SecondAsked}
use Rattle.grid_run.specs.declared.back.Back.{Back}
use Rattle.grid_run.specs.declared.plan.BackShelf.{BackShelf}
use Rattle.grid_run.specs.declared.queue.Queue.{Queue}
use Rattle.grid_run.specs.declared.seat.BothSeats.{BothSeats}
use Rattle.grid_run.specs.declared.seat.Seat.{Seat}

-- what a second level does: behind which seats it is, and the rules of its caches
pub record BackTask : Type 0 where
  pub i : Seat
  pub d : Seat
  pub rules : List Rules

-- what second levels made for this shelf do
unfoldable pub task_of_shelf : BackShelf → BackTask
task_of_shelf s = record { i = s.i; d = s.d; rules = rules_on s.shelf }

-- the seats in front of it
abbrev pub seats_of_task : BackTask → BothSeats
seats_of_task t = record { i = t.i; d = t.d }

-- a place where second levels share a queue: their block size, as that of a geometry, and the seats
-- in front of each user
pub record SharedSeats : Type 0 where
  pub first : Geometry
  pub users : List BothSeats

-- what second levels that share a queue do: where they are, and the rules of each user's caches
pub record SharedTask : Type 0 where
  pub seats : SharedSeats
  pub rules : List Rules

-- the seats in front of these second levels
unfoldable pub back_seats : Back → SharedSeats
back_seats b = record { first = b.first; users = b.users.items }

-- what these second levels do
unfoldable pub back_task : Back → SharedTask
back_task b = record { seats = back_seats b; rules = second_rules b.second.caches }

-- the seats in front of these
abbrev pub seats_of_shared : SharedTask → SharedSeats
seats_of_shared t = t.seats

-- what a user does behind these seats whose caches have these rules
abbrev pub task_at : List Rules → BothSeats → BackTask
task_at rules p = record { i = p.i; d = p.d; rules = rules }

-- what each user does
abbrev pub each_task : SharedTask → List BackTask
each_task t = map (task_at t.rules) t.seats.users

-- the seats in front of a queue
unfoldable pub queue_seats : Queue → SharedSeats
queue_seats q = record { first = q.first; users = q.users.items }

-- the seat is one of those whose rules these are
pub record IsSeatIn (t : SeatRules) (s : Seat) : Type 0 where
  pub family : s.family < length t
  pub cell : s.cell < length (get_or t s.family [])

-- the seat on a side is one of those whose rules these are
pub record IsSeatedOn (s : Side) (fronts : SeatRules) (p : BothSeats) : Type 0 where
  pub seat : IsSeatIn fronts (seat_on s p)

-- so it is for each user
pub record AreSeatedOn (s : Side) (fronts : SeatRules) (ps : SharedSeats) : Type 0 where
  pub each : All (IsSeatedOn s fronts) ps.users

-- both seats are there
pub record AreSeatsIn (i d : SeatRules) (p : BothSeats) : Type 0 where
  pub on_i : IsSeatIn i p.i
  pub on_d : IsSeatIn d p.d

-- so it is for each user
pub record AreSeatedIn (i d : SeatRules) (ps : SharedSeats) : Type 0 where
  pub each : All (AreSeatsIn i d) ps.users

-- both seats in front of second levels are there
abbrev pub IsPlacedIn : SeatRules → SeatRules → BackTask → Type 0
IsPlacedIn i d t = AreSeatsIn i d (seats_of_task t)

-- for the seats of each two first-level caches, some requests
abbrev pub RequestsFor : Type 0
RequestsFor = BothSeats → List What

-- none at all
abbrev pub no_requests : RequestsFor
no_requests p = []

-- requests, and others after them
abbrev pub followed_by : RequestsFor → RequestsFor → RequestsFor
followed_by first then p = first p ++ then p

-- what the cache of a side sends for a request to it after a history, by the rules of its caches
abbrev pub sent_for : Side → SeatRules → History → Event → RequestsFor
sent_for s fronts h q p = parts_of (rules_of_seat fronts (seat_on s p)) s h q

-- what it sends for the event e, which comes after the events es
abbrev pub sent_on_side : Side → SeatRules → List DinRecord → DinRecord → RequestsFor
sent_on_side s fronts es e p = sent_up (parts_of (rules_of_seat fronts (seat_on s p))) s es e

-- the rules of the caches of a side
abbrev pub rules_on_side : Side → SeatRules → SeatRules → SeatRules
rules_on_side side.I i d = i
rules_on_side side.D i d = d

-- what the caches at both seats send
abbrev pub parts_at : SeatRules → SeatRules → BothSeats → Parts
parts_at i d p s h q = parts_of (rules_of_seat (rules_on_side s i d) (seat_on s p)) s h q

-- all that caches of these rules sent for these events
abbrev pub sent_behind : SeatRules → SeatRules → List DinRecord → RequestsFor
sent_behind i d es p = second_level_requests (parts_at i d p) es

-- for each user of a queue, all requests for its seats are those of before, and then those that
-- wait for it
pub record AreWaiting (before requests : RequestsFor) (q : Queue) : Type 0 where
  pub all : (k : ℕ) → k < length q.users.items → requests (seats_at q.users.items k)
      ≡ before (seats_at q.users.items k) ++ sent_to k q.waiting.items

-- the requests that wait in a queue have the numbers of their blocks
pub record HasNumbers (blocks : List ℕ) (q : Queue) : Type 0 where
  pub each : All (IsNumbered blocks (bsize_of q.first)) q.waiting.items

-- those of a queue still have them, and so have those that joined them; there may be more numbers
abbrev pub StaysNumbered : List ℕ → Queue → List ℕ → Queue → Type 0
StaysNumbered before old after new =
    StayNumbered (bsize_of old.first) before old.waiting.items after new.waiting.items

-- the same of all queues
pub record QueuesStayNumbered (before : List ℕ) (old : List Queue) (after : List ℕ)
    (new : List Queue) : Type 0 where
  pub grows : IsBeginning before after
  pub each : All (HasNumbers before) old → All (HasNumbers after) new

-- no request waits in the queue
pub record HasNone (q : Queue) : Type 0 where
  pub none : q.waiting.items ≡ []

-- the second levels of each user were asked for the requests of its seats, and have served some by
-- the numbers that the places of a list of blocks are
pub record WereAsked (blocks : List ℕ) (requests : RequestsFor) (b : Back) : Type 0 where
  pub second : SecondAsked blocks (λ k. requests (seats_at b.users.items k)) b.second

-- for no two seats are there more requests than a second level can serve
pub record AreFewRequests (requests : RequestsFor) : Type 0 where
  pub few : (p : BothSeats) → length (requests p) ≤ 2 ^ 44

-- no request waits for the second levels
abbrev pub NothingWaits : Back → Type 0
NothingWaits b = NothingWaitsFor b.second
