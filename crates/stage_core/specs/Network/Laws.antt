-- Laws of the network. They hold whatever the first level sends and whatever the rings hold; two of
-- them ask for room for one message.
use Rattle.std.specs.Prelude.{◌≡◌, ℕ, ◌*◌, ◌<◌, ◌≤◌, List, length, Some, None}
use Rattle.din_trace.specs.declared.record.DinRecord.{DinRecord}
use Rattle.cache_core.specs.Lists.{IsBeginning}
use Rattle.stage_core.specs.SecondLevel.{Parts, second_level_requests}
use Rattle.stage_core.specs.Streams.{order, to_side, from_side}
use Rattle.stage_core.specs.Network.Rings.{carried}
use Rattle.stage_core.specs.Network.{Network, Machine, Consistent, IsFinished, lane, next, run}
use Rattle.stage_core.specs.Network.{start, steps_made, messages}
use Rattle.stage_core.specs.declared.message.Side.{Side}

-- the state at the start is consistent
abbrev pub StartIsConsistent : Type 0
StartIsConsistent = (parts : Parts) (es : List DinRecord) → Consistent parts es (start es)

-- each step of each machine leads from a consistent state to a consistent state
abbrev pub StepsKeepConsistency : Type 0
StepsKeepConsistency =
    (parts : Parts) (es : List DinRecord) (capacity : ℕ) (m : Machine) (old new : Network) →
    Consistent parts es old → next parts capacity m old ≡ Some new → Consistent parts es new

-- each schedule leads from the start to a consistent state
abbrev pub SchedulesKeepConsistency : Type 0
SchedulesKeepConsistency =
    (parts : Parts) (es : List DinRecord) (capacity : ℕ) (ms : List Machine) (n : Network) →
    run parts capacity ms (start es) ≡ Some n → Consistent parts es n

-- if no machine can step in a consistent state, all have finished; each ring has to have room for
-- at least one message
abbrev pub ConsistentStatesGoOn : Type 0
ConsistentStatesGoOn =
    (parts : Parts) (es : List DinRecord) (capacity : ℕ) (n : Network) →
    0 < capacity → Consistent parts es n →
    ((m : Machine) → next parts capacity m n ≡ None) → IsFinished n

-- if no machine can step after a schedule from the start, all have finished
abbrev pub NoScheduleIsStuck : Type 0
NoScheduleIsStuck =
    (parts : Parts) (es : List DinRecord) (capacity : ℕ) (ms : List Machine) (n : Network) →
    0 < capacity → run parts capacity ms (start es) ≡ Some n →
    ((m : Machine) → next parts capacity m n ≡ None) → IsFinished n

-- no ring has more messages waiting than its capacity
pub record IsWithin (capacity : ℕ) (n : Network) : Type 0 where
  pub order : length n.order.waiting ≤ capacity
  pub to : (s : Side) → length (lane s n).to.waiting ≤ capacity
  pub from : (s : Side) → length (lane s n).from.waiting ≤ capacity

-- after every schedule from the start, no ring has more messages waiting than its capacity
abbrev pub RingsHoldTheirCapacity : Type 0
RingsHoldTheirCapacity =
    (parts : Parts) (es : List DinRecord) (capacity : ℕ) (ms : List Machine) (n : Network) →
    run parts capacity ms (start es) ≡ Some n → IsWithin capacity n

-- what each ring has carried is a beginning of its stream
abbrev pub RingsCarryBeginnings : Type 0
RingsCarryBeginnings =
    (parts : Parts) (es : List DinRecord) (n : Network) → Consistent parts es n →
    IsBeginning (carried n.order) (order es)
    × ((s : Side) → IsBeginning (carried (lane s n).to) (to_side s es))
    × ((s : Side) → IsBeginning (carried (lane s n).from) (from_side parts s es))

-- the second level was given at most as many requests as it gets in all
abbrev pub SecondLevelIsGivenNoMore : Type 0
SecondLevelIsGivenNoMore =
    (parts : Parts) (es : List DinRecord) (n : Network) → Consistent parts es n →
    length n.given ≤ length (second_level_requests parts es)

-- when all machines have finished, the second level was given exactly its requests
abbrev pub FinishedMeansAllGiven : Type 0
FinishedMeansAllGiven =
    (parts : Parts) (es : List DinRecord) (n : Network) → Consistent parts es n →
    IsFinished n → n.given ≡ second_level_requests parts es

-- at most two steps were made for each message: a push and a pop
abbrev pub StepsAreBounded : Type 0
StepsAreBounded =
    (parts : Parts) (es : List DinRecord) (n : Network) → Consistent parts es n →
    steps_made n ≤ 2 * messages parts es

-- when all machines have finished, exactly two steps were made for each message
abbrev pub FinishedMeansAllSteps : Type 0
FinishedMeansAllSteps =
    (parts : Parts) (es : List DinRecord) (n : Network) → Consistent parts es n →
    IsFinished n → steps_made n ≡ 2 * messages parts es

-- every schedule after which all machines have finished has exactly two steps for each message
abbrev pub CompleteSchedulesAreAsLong : Type 0
CompleteSchedulesAreAsLong =
    (parts : Parts) (es : List DinRecord) (capacity : ℕ) (ms : List Machine) (n : Network) →
    run parts capacity ms (start es) ≡ Some n → IsFinished n →
    length ms ≡ 2 * messages parts es
