-- All messages that the splitter pushes for an event list, each with its ring.
use Rattle.std.specs.Prelude.{◌≡◌, List, [], ◌∷◌, ◌++◌, map, option_to_list}
use Rattle.din_trace.specs.declared.record.DinRecord.{DinRecord}
use Rattle.stage_core.specs.Places.{flat_map_with_past}
use Rattle.stage_core.specs.Network.Rings.{Ring, with_message}
use Rattle.stage_core.specs.Streams.{turn_of, messages_to}
use Rattle.stage_core.specs.declared.message.Side.{Side}
use Rattle.stage_core.specs.declared.message.Side.TheVariants as side
use Rattle.stage_core.specs.declared.message.Turn.{Turn}
use Rattle.stage_core.specs.declared.message.Turn.TheVariants as turn
use Rattle.stage_core.specs.declared.message.ToStage.{ToStage}
use Rattle.stage_core.specs.declared.message.ToStage.TheVariants as to_stage
use Rattle.stage_core.specs.declared.message.Routed.{Routed}
pub use Rattle.stage_core.specs.declared.network.pushes.Push.{Push}
pub use Rattle.stage_core.specs.declared.network.pushes.Push.TheVariants.{Order, To}

-- the pushes of one event: its turn, then the message to I, then the message to D
abbrev pub in_order : Turn → List ToStage → List ToStage → List Push
in_order t is ds = Order t ∷ (map (To side.I) is ++ map (To side.D) ds)

-- the pushes of the event e, which comes after the events `before`
abbrev pub pushes_at : List DinRecord → DinRecord → List Push
pushes_at before e = in_order (turn_of e.label) (messages_to side.I before e)
    (messages_to side.D before e)

-- the pushes of the end
abbrev pub ending : List Push
ending = in_order turn.Finish (to_stage.Finish ∷ []) (to_stage.Finish ∷ [])

-- all pushes for an event list, in order
abbrev pub pushes : List DinRecord → List Push
pushes events = flat_map_with_past pushes_at events ++ ending

-- the pushes of what the splitter made of an event, or of the end
abbrev pub pushes_in : Routed → List Push
pushes_in r = in_order r.turn (option_to_list r.i) (option_to_list r.d)

-- the messages that are pushed into the order ring
abbrev pub turns_in : List Push → List Turn
turns_in [] = []
turns_in (Order t ∷ ps) = t ∷ turns_in ps
turns_in (To s m ∷ ps) = turns_in ps

-- the item as a list if the two sides are the same, and else nothing
abbrev pub for_side : {A : Type 0} → Side → Side → A → List A
for_side side.I side.I x = x ∷ []
for_side side.I side.D x = []
for_side side.D side.I x = []
for_side side.D side.D x = x ∷ []

-- the messages that are pushed into the ring to a side
abbrev pub sent_to : Side → List Push → List ToStage
sent_to s [] = []
sent_to s (Order t ∷ ps) = sent_to s ps
sent_to s (To r m ∷ ps) = for_side s r m ++ sent_to s ps

-- the message of a push is added to its ring, and the other two rings do not change
abbrev pub IsPushed : Push → Ring Turn → Ring ToStage → Ring ToStage → Ring Turn → Ring ToStage →
    Ring ToStage → Type 0
IsPushed (Order t) o i d o' i' d' = (o' ≡ with_message t o) × (i' ≡ i) × (d' ≡ d)
IsPushed (To side.I m) o i d o' i' d' = (o' ≡ o) × (i' ≡ with_message m i) × (d' ≡ d)
IsPushed (To side.D m) o i d o' i' d' = (o' ≡ o) × (i' ≡ i) × (d' ≡ with_message m d)
