-- Threads as a state of the network: to the merge, what is held in an outbox is as if it waited in
-- the ring.
use Rattle.std.proofs.Common.{◌≡◌, Bool, true, false, List, [], ◌∷◌, ◌++◌, map, refl, sym, ap, ◌∙◌}
use Rattle.std.proofs.Common.{append-nil}
use Rattle.std.proofs.lemmas.List.{append_cancel_right}
use Rattle.din_trace.specs.declared.record.DinRecord.{DinRecord}
use Rattle.stage_core.specs.Places.{flat_map_with_past, list_if}
use Rattle.stage_core.specs.SecondLevel.{Parts}
use Rattle.stage_core.specs.Streams.{turn_of, messages_to, replies}
use Rattle.stage_core.specs.Network.Pushes.{Push, pushes, pushes_at, ending, turns_in, sent_to}
use Rattle.stage_core.specs.Network.Rings.{carried}
use Rattle.stage_core.specs.Network.{Network, Lane, lane, Consistent}
use Rattle.stage_core.specs.Waiting.{HasPosted, HasAnswered, HasMerged, Threads, RingsCarry}
use Rattle.stage_core.specs.declared.message.Side.{Side}
use Rattle.stage_core.specs.declared.message.Side.TheVariants as side
use Rattle.stage_core.specs.declared.message.Turn.{Turn}
use Rattle.stage_core.specs.declared.message.Turn.TheVariants as turn
use Rattle.stage_core.specs.declared.message.ToStage.{ToStage}
use Rattle.stage_core.specs.declared.message.ToStage.TheVariants as to_stage
use Rattle.stage_core.proofs.network.StreamCounts.{turns_in-append, sent_to-append, turns_in-pushes}
use Rattle.stage_core.proofs.network.StreamCounts.{sent_to-pushes}

-- the pushes of the end, if they were made
abbrev begun : Bool → List Push
begun true = ending
begun false = []

-- what of them is still to come
abbrev pub left : Bool → List Push
left true = []
left false = ending

-- a stage with its two rings, each of which has what its sender holds too
abbrev pub lane_of : Side → Threads → Lane
lane_of s n = record {
  to = record {
    popped = (n.stage s).received;
    waiting = n.to s ++ (n.splitter.to s).held;
  };
  outbox = (n.stage s).unposted;
  from = record {
    popped = n.merge.from s;
    waiting = n.from s ++ (n.stage s).from.held;
  };
}

-- the threads as a network with such rings
abbrev pub network : Threads → Network
network n = record {
  still = left n.splitter.closed;
  order = record {
    popped = n.merge.turns;
    waiting = n.order ++ n.splitter.order.held;
  };
  i = lane_of side.I n;
  d = lane_of side.D n;
  at = n.merge.at;
  given = n.merge.given;
}

-- its lane of a side is that
pub lane-of : (n : Threads) (s : Side) → lane s (network n) ≡ lane_of s n
lane-of n side.I = refl
lane-of n side.D = refl

pushed-front : (b : Bool) (es : List DinRecord)
    → (flat_map_with_past pushes_at es ++ begun b) ++ left b ≡ pushes es
pushed-front true es = append-nil (pushes es)
pushed-front false es = ap (λ ps. ps ++ ending) (append-nil (flat_map_with_past pushes_at es))

turns-pushed : (b : Bool) (es : List DinRecord)
    → turns_in (flat_map_with_past pushes_at es ++ begun b)
    ≡ map (λ e. turn_of e.label) es ++ list_if b turn.Finish
turns-pushed true es = turns_in-pushes es
turns-pushed false es =
    let ps : List Push = flat_map_with_past pushes_at es in
    let ts : List Turn = map (λ e. turn_of e.label) es in
    ap turns_in (append-nil ps)
    ∙ append_cancel_right (turns_in ps) ts (turn.Finish ∷ [])
    (sym (turns_in-append ps ending) ∙ turns_in-pushes es)
    ∙ sym (append-nil ts)

ending-to : (s : Side) → sent_to s ending ≡ to_stage.Finish ∷ []
ending-to side.I = refl
ending-to side.D = refl

sent-pushed : (b : Bool) (s : Side) (es : List DinRecord)
    → sent_to s (flat_map_with_past pushes_at es ++ begun b)
    ≡ flat_map_with_past (messages_to s) es ++ list_if b to_stage.Finish
sent-pushed true s es = sent_to-pushes s es
sent-pushed false s es =
    let ps : List Push = flat_map_with_past pushes_at es in
    let ms : List ToStage = flat_map_with_past (messages_to s) es in
    ap (sent_to s) (append-nil ps)
    ∙ append_cancel_right (sent_to s ps) ms (to_stage.Finish ∷ [])
    (ap (λ l. sent_to s ps ++ l) (sym (ending-to s)) ∙ sym (sent_to-append s ps ending)
    ∙ sent_to-pushes s es)
    ∙ sym (append-nil ms)

-- each of the four has done what its streams and its rule ask for
pub record AreRight (parts : Parts) (n : Threads) : Type 0 where
  pub posted : HasPosted n.splitter
  pub answered : (s : Side) → HasAnswered parts s (n.stage s)
  pub merged : HasMerged n.merge

-- such a network is consistent
pub consistent : (parts : Parts) (n : Threads) → RingsCarry n → AreRight parts n
    → Consistent parts n.splitter.events (network n)
consistent parts n h r =
    let es : List DinRecord = n.splitter.events in
    let b : Bool = n.splitter.closed in
    record {
      pushed = flat_map_with_past pushes_at es ++ begun b;
      front = pushed-front b es;
      turns = sym h.order ∙ r.posted.order ∙ sym (turns-pushed b es);
      to_side = λ s.
          ap (λ (l : Lane). carried l.to) (lane-of n s) ∙ sym (h.to s) ∙ r.posted.to s
          ∙ sym (sent-pushed b s es);
      from_side = λ s.
          ap (λ (l : Lane). carried l.from ++ l.outbox) (lane-of n s)
          ∙ ap (λ l. l ++ (n.stage s).unposted) (sym (h.from s))
          ∙ r.answered s
          ∙ ap (λ (l : Lane). replies parts s l.to.popped) (sym (lane-of n s));
      merge = r.merged;
    }
