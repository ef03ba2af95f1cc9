-- Requests to a first-level cache, and what a second level was asked for.
use Rattle.std.specs.Prelude.{◌≡◌, ℕ, ◌+◌, ◌<◌, ◌≤◌, ◌^◌, List, [], ◌++◌, length, true}
use Rattle.std.specs.List.{All}
use Rattle.cache_core.specs.History.{Event, History, access, flush}
use Rattle.stage_core.specs.SecondLevel.{second_history}
use Rattle.stage_core.specs.declared.message.What.{What}
use Rattle.grid_run.specs.Numbering.{IsNumbered, is_for, sent_to}
use Rattle.grid_run.specs.SecondCaches.{SecondStandsBy, second_bsize, second_users}
use Rattle.grid_run.specs.declared.numbered.Numbered.{Numbered}
use Rattle.grid_run.specs.declared.requests.Request.{Request}
use Rattle.grid_run.specs.declared.requests.Request.TheVariants as request
use Rattle.grid_run.specs.declared.second.Second.{Second}
use Rattle.grid_run.specs.declared.second_caches.SecondCaches.{SecondCaches}

-- a request as an event of a history
abbrev pub event_of : Request → Event
event_of (request.Access x) = access x
event_of request.Flush = flush

-- the caches of each user have served these requests of the first level, by the numbers that the
-- places of a list of blocks are
abbrev pub SecondServed : List ℕ → (ℕ → List What) → SecondCaches → Type 0
SecondServed blocks ws u =
    (q : ℕ) → q < second_users u → SecondStandsBy blocks u q (second_history (ws q))

-- they have served some requests, and have room for these too, which have the same numbers
pub record SecondHasRoom (blocks : List ℕ) (u : SecondCaches) (ws : List Numbered) : Type 0 where
  pub past : ℕ → List What
  pub stands : SecondServed blocks past u
  pub numbered : All (IsNumbered blocks (second_bsize u)) ws
  pub short :
      (q : ℕ) → q < second_users u → length (past q) + length (sent_to q ws) ≤ 2 ^ 44

-- they can serve a request: those that it is for have room for one more
pub record SecondCanServe (u : SecondCaches) (w : Numbered) : Type 0 where
  pub blocks : List ℕ
  pub past : ℕ → History
  pub stands : (q : ℕ) → q < second_users u → SecondStandsBy blocks u q (past q)
  pub short : (q : ℕ) → q < second_users u → is_for q w ≡ true → length (past q) < 2 ^ 44

-- each user was asked for these requests: its caches have served the first of them, by the numbers
-- that the places of a list of blocks are, and the others wait
pub record SecondAsked (blocks : List ℕ) (ws : ℕ → List What) (u : Second) : Type 0 where
  pub served : ℕ → List What
  pub stands : SecondServed blocks served u.caches
  pub all : (q : ℕ) → q < second_users u.caches → ws q ≡ served q ++ sent_to q u.waiting.items
  pub numbered : All (IsNumbered blocks (second_bsize u.caches)) u.waiting.items

-- no request waits
pub record NothingWaitsFor (u : Second) : Type 0 where
  pub none : u.waiting.items ≡ []
