-- What one turn of a loop over all caches of a side, all queues, or all second levels, does.
use Rattle.std.proofs.Common.{◌≡◌, ◌∷◌, ℕ, List, map, sym, subst}
use Rattle.std.specs.List.{All}
use Rattle.cache_core.specs.Geometry.{bsize_of}
use Rattle.cache_core.specs.History.{History}
use Rattle.stage_core.specs.declared.message.Side.{Side}
use Rattle.cache_core.specs.Lists.{IsBeginning}
use Rattle.grid_run.specs.Backs.{AreWaiting, HasNumbers, NothingWaits, RequestsFor, WereAsked}
use Rattle.grid_run.specs.Backs.{SharedSeats, StaysNumbered, followed_by, queue_seats, sent_for}
use Rattle.grid_run.specs.Banks.{NothingWaitsIn, WasAsked}
use Rattle.grid_run.specs.Fronts.{FrontAt, HasSent, front_rules}
use Rattle.grid_run.specs.Numbering.{IsNumbered}
use Rattle.grid_run.specs.Sending.{event_of}
use Rattle.grid_run.specs.declared.back.Back.{Back}
use Rattle.grid_run.specs.declared.bank.Bank.{Bank}
use Rattle.grid_run.specs.declared.front.Front.{Front}
use Rattle.grid_run.specs.declared.queue.Queue.{Queue}
use Rattle.grid_run.specs.declared.requests.Request.{Request}
use Rattle.grid_run.proofs.MoreNumbers.{front-more}
use Rattle.grid_run.proofs.StayNumbered.{queue-more}

-- first-level caches have served the request; there were some numbers of blocks at the start, and
-- there are these now
pub record Serves (q : Request) (start now : List ℕ) (old new : Front) : Type 0 where
  pub stands : (h : History) → FrontAt start h old → FrontAt now (event_of q ∷ h) new
  pub sent : (h : History) → FrontAt start h old → HasSent h q new

-- they have served it where there are more numbers now
pub serves-more : (q : Request) (start blocks more : List ℕ) → IsBeginning blocks more
    → (old new : Front) → Serves q start blocks old new → Serves q start more old new
serves-more q start blocks more on old new done = record {
  stands = λ h at. front-more blocks more on (event_of q ∷ h) new (done.stands h at);
  sent = done.sent;
}

-- a queue took what the first-level caches of a side sent last; there were some numbers of blocks
-- at the start, and there are these now
pub record Asks (s : Side) (fronts : List Front) (start now : List ℕ) (old new : Queue)
    : Type 0 where
  pub asked : (given : RequestsFor) (h : History) (q : Request) (before : RequestsFor)
      → All (HasSent h q) fronts → AreWaiting given before old → AreWaiting given
      (followed_by before (sent_for s (map front_rules fronts) h (event_of q))) new
  pub numbers : HasNumbers start old → HasNumbers now new

-- it has done so where there are more numbers now
pub asks-more : (s : Side) (fronts : List Front) (start blocks more : List ℕ)
    → IsBeginning blocks more → (old new : Queue) → Asks s fronts start blocks old new
    → Asks s fronts start more old new
asks-more s fronts start blocks more on old new done = record {
  asked = done.asked;
  numbers = λ has. queue-more blocks more new on (done.numbers has);
}

-- what a queue takes in one turn
pub asks-next : (s : Side) (fronts : List Front) (start before after : List ℕ)
    → IsBeginning start before → (old new : Queue) → queue_seats new ≡ queue_seats old
    → ((given : RequestsFor) (h : History) (q : Request) (all : RequestsFor)
    → All (HasSent h q) fronts → AreWaiting given all old → AreWaiting given
    (followed_by all (sent_for s (map front_rules fronts) h (event_of q))) new)
    → StaysNumbered before old after new → Asks s fronts start after old new
unfolding queue_seats
asks-next s fronts start before after on old new seats asked stays = record {
  asked = asked;
  numbers = λ has. record {
    each = subst (λ (p : SharedSeats). All (IsNumbered after (bsize_of p.first)) new.waiting.items)
        (sym seats) (stays.each (queue-more start before old on has).each);
  };
}

-- second levels that had served what they were asked for have taken over what waited besides
pub record TakesOver (blocks : List ℕ) (served all : RequestsFor) (old new : Back) : Type 0 where
  pub asked : WereAsked blocks served old → WereAsked blocks all new

-- second levels have served what waited for them
pub record Settles (old new : Back) : Type 0 where
  pub asked : (blocks : List ℕ) (all : RequestsFor) → WereAsked blocks all old
      → WereAsked blocks all new
  pub settled : NothingWaits new

-- a bank has served all that waited for it
pub record SettlesBank (old new : Bank) : Type 0 where
  pub asked : (blocks : List ℕ) (all : RequestsFor) → WasAsked blocks all old
      → WasAsked blocks all new
  pub settled : NothingWaitsIn new
