-- The network: five rings and four machines, of which one makes one push or one pop at a time.
pub mod Rings
pub mod Sides
pub mod Pushes
pub mod Laws
pub mod Lanes
pub mod Cores
pub mod Choices
use Rattle.std.specs.Prelude.{◌≡◌, ℕ, ◌+◌, Bool, true, List, [], ◌∷◌, ◌++◌, length, filter, Option}
use Rattle.std.specs.Prelude.{Some, None, is_some, option_and_then, if◌then◌else◌}
use Rattle.std.specs.Option.{option_map}
use Rattle.std.specs.List.{list_any}
use Rattle.din_trace.specs.declared.record.DinRecord.{DinRecord}
use Rattle.stage_core.specs.SecondLevel.{Parts}
use Rattle.stage_core.specs.Streams.{order, to_side, from_side, is_finish, reply, replies}
use Rattle.stage_core.specs.Merging.{MergeState, AtOrder, wanted, after_turn, after_message}
use Rattle.stage_core.specs.Merging.{what_in, merged, all_used}
use Rattle.stage_core.specs.Network.Rings.{Ring, carried, empty_ring, push, pop, ring_steps}
use Rattle.stage_core.specs.Network.Pushes.{Push, Order, To, pushes, turns_in, sent_to}
use Rattle.stage_core.specs.declared.message.Side.{Side}
use Rattle.stage_core.specs.declared.message.Side.TheVariants as side
use Rattle.stage_core.specs.declared.message.What.{What}
use Rattle.stage_core.specs.declared.message.Turn.{Turn}
use Rattle.stage_core.specs.declared.message.Want.{Want}
use Rattle.stage_core.specs.declared.message.Want.TheVariants as want
use Rattle.stage_core.specs.declared.message.ToStage.{ToStage}
use Rattle.stage_core.specs.declared.message.FromStage.{FromStage}
pub use Rattle.stage_core.specs.declared.network.Machine.{Machine}
pub use Rattle.stage_core.specs.declared.network.Machine.TheVariants.{Splitter, Stage, Merging}

-- a first-level stage between its two rings
pub record Lane : Type 0 where
  pub to : Ring ToStage
  pub outbox : List FromStage
  pub from : Ring FromStage

-- the stage has received Finish
abbrev pub finish_taken : Lane → Bool
finish_taken l = list_any is_finish l.to.popped

-- a state of the network: what the splitter has still to push, the order ring, the two lanes, the
-- state of the merge, and the requests that the second level was given
pub record Network : Type 0 where
  pub still : List Push
  pub order : Ring Turn
  pub i : Lane
  pub d : Lane
  pub at : MergeState
  pub given : List What

-- the lane of a side
abbrev pub lane : Side → Network → Lane
lane side.I n = n.i
lane side.D n = n.d

-- the network with this lane at a side
abbrev pub with_lane : Side → Lane → Network → Network
with_lane side.I l n = record n { i = l }
with_lane side.D l n = record n { d = l }

-- the splitter pushes its next message
abbrev pub split : ℕ → List Push → Network → Option Network
split capacity [] n = None
split capacity (Order t ∷ rest) n =
    option_map (λ r. record n { still = rest; order = r }) (push capacity t n.order)
split capacity (To s m ∷ rest) n =
    option_map (λ r. with_lane s record (lane s n) { to = r } record n { still = rest })
    (push capacity m (lane s n).to)

-- a stage with an empty outbox receives its next message, unless it has received Finish
abbrev pub take_in : Parts → Side → Lane → Option Lane
take_in parts s l =
    option_map (λ x. record { to = x.1; outbox = reply parts s l.to.popped x.0; from = l.from })
    (if finish_taken l then None else pop l.to)

-- a stage pushes the first message of its outbox; if that is empty, it receives a message
abbrev pub stage : Parts → ℕ → Side → List FromStage → Lane → Option Lane
stage parts capacity s [] l = take_in parts s l
stage parts capacity s (m ∷ rest) l =
    option_map (λ r. record { to = l.to; outbox = rest; from = r }) (push capacity m l.from)

-- the merge takes a turn
abbrev pub take_turn : Network → Option Network
take_turn n = option_map (λ x. record n { order = x.1; at = after_turn x.0 }) (pop n.order)

-- the merge takes a message of a side, and the second level gets the request in it, if any
abbrev pub take_from : Side → Network → Option Network
take_from s n =
    option_map (λ x. with_lane s record (lane s n) { from = x.1 }
    record n { at = after_message n.at x.0; given = n.given ++ what_in x.0 })
    (pop (lane s n).from)

-- the merge pops a message of the ring that it wants
abbrev pub merge : Want → Network → Option Network
merge want.Order n = take_turn n
merge want.I n = take_from side.I n
merge want.D n = take_from side.D n
merge want.Nothing n = None

-- the state after the next step of a machine, if that step is possible
abbrev pub next : Parts → ℕ → Machine → Network → Option Network
next parts capacity Splitter n = split capacity n.still n
next parts capacity (Stage s) n =
    option_map (λ l. with_lane s l n) (stage parts capacity s (lane s n).outbox (lane s n))
next parts capacity Merging n = merge (wanted n.at) n

-- can this machine step?
abbrev pub can : Parts → ℕ → Network → Machine → Bool
can parts capacity n m = is_some (next parts capacity m n)

-- all machines, in their order
abbrev pub machines : List Machine
machines = Splitter ∷ Stage side.I ∷ Stage side.D ∷ Merging ∷ []

-- the machines that can step
abbrev pub enabled : Parts → ℕ → Network → List Machine
enabled parts capacity n = filter (can parts capacity n) machines

-- all machines have finished: the splitter has pushed all messages, both stages have received
-- Finish and sent all answers, and the merge wants no message
pub record IsFinished (n : Network) : Type 0 where
  pub splitter : n.still ≡ []
  pub sent : (s : Side) → (lane s n).outbox ≡ []
  pub took : (s : Side) → finish_taken (lane s n) ≡ true
  pub merge : wanted n.at ≡ want.Nothing

-- a lane at the start
abbrev pub empty_lane : Lane
empty_lane = record { to = empty_ring; outbox = []; from = empty_ring }

-- the state at the start: the splitter has everything still to push, and all else is empty
abbrev pub start : List DinRecord → Network
start events = record {
  still = pushes events;
  order = empty_ring;
  i = empty_lane;
  d = empty_lane;
  at = AtOrder;
  given = [];
}

-- the state after a schedule, in which each machine of the list makes its next step; `None` if one
-- of these steps is not possible
abbrev pub run : Parts → ℕ → List Machine → Network → Option Network
run parts capacity [] n = Some n
run parts capacity (m ∷ ms) n = option_and_then (run parts capacity ms) (next parts capacity m n)

-- how many steps were made on the rings of a lane
abbrev pub lane_steps : Lane → ℕ
lane_steps l = ring_steps l.to + ring_steps l.from

-- how many steps were made: the pushes and the pops of all five rings
abbrev pub steps_made : Network → ℕ
steps_made n = ring_steps n.order + lane_steps n.i + lane_steps n.d

-- how many messages the two streams of a side have
abbrev pub side_messages : Parts → List DinRecord → Side → ℕ
side_messages parts events s = length (to_side s events) + length (from_side parts s events)

-- how many messages all five streams have
abbrev pub messages : Parts → List DinRecord → ℕ
messages parts events = length (order events) + side_messages parts events side.I
    + side_messages parts events side.D

-- The invariant of all states. The splitter has pushed the first part of its list, and its rings
-- have carried exactly those messages. What a stage has sent, together with its outbox, is its
-- answer to what it has received. The merge's rule, applied to the popped messages, uses all of
-- them, comes to the merge's state, and takes the requests that the second level was given.
pub record Consistent (parts : Parts) (events : List DinRecord) (n : Network) : Type 0 where
  pub pushed : List Push
  pub front : pushed ++ n.still ≡ pushes events
  pub turns : carried n.order ≡ turns_in pushed
  pub to_side : (s : Side) → carried (lane s n).to ≡ sent_to s pushed
  pub from_side : (s : Side) →
      carried (lane s n).from ++ (lane s n).outbox ≡ replies parts s (lane s n).to.popped
  pub merge : merged n.order.popped n.i.from.popped n.d.from.popped ≡ all_used n.given n.at
