-- The ends of the rings: which rings they belong to, and which messages these have carried.
use Rattle.std.specs.Prelude.{◌≡◌, ℕ, List, []}
use Rattle.pipe_rings.specs.Rings as ring
use Rattle.pipe_rings.specs.Rings.{AreEnds, SameTx, SameRx, HasRoom, IsAnnounced, capacity_of}
use Rattle.pipe_rings.specs.Rings.{outbox_of}
use Rattle.stage_core.specs.declared.message.Turn.{Turn}
use Rattle.stage_core.specs.declared.message.ToStage.{ToStage}
use Rattle.stage_core.specs.declared.message.FromStage.{FromStage}
use Rattle.run_threads.specs.declared.ends.SplitterEnds.{SplitterEnds}
use Rattle.run_threads.specs.declared.ends.StageEnds.{StageEnds}
use Rattle.run_threads.specs.declared.ends.MergeEnds.{MergeEnds}
use Rattle.run_threads.specs.declared.ends.Rings.{Rings}

-- both values are the splitter's ends of the same rings
pub record SameSplitterEnds (was now : SplitterEnds) : Type 0 where
  pub order : SameTx was.order now.order
  pub to_i : SameTx was.to_i now.to_i
  pub to_d : SameTx was.to_d now.to_d

-- both values are a stage's ends of the same rings
pub record SameStageEnds (was now : StageEnds) : Type 0 where
  pub from_splitter : SameRx was.from_splitter now.from_splitter
  pub to_merge : SameTx was.to_merge now.to_merge

-- both values are the merge's ends of the same rings
pub record SameMergeEnds (was now : MergeEnds) : Type 0 where
  pub order : SameRx was.order now.order
  pub from_i : SameRx was.from_i now.from_i
  pub from_d : SameRx was.from_d now.from_d

-- both values have sent the same messages
pub record SentSame (was now : SplitterEnds) : Type 0 where
  pub order : ring.sent now.order ≡ ring.sent was.order
  pub to_i : ring.sent now.to_i ≡ ring.sent was.to_i
  pub to_d : ring.sent now.to_d ≡ ring.sent was.to_d

-- there is room to post the messages of one more event
pub record HaveRoom (ends : SplitterEnds) : Type 0 where
  pub order : HasRoom ends.order
  pub to_i : HasRoom ends.to_i
  pub to_d : HasRoom ends.to_d

-- the splitter has sent nothing
pub record UnusedSplitter (ends : SplitterEnds) : Type 0 where
  pub order : ring.sent ends.order ≡ []
  pub to_i : ring.sent ends.to_i ≡ []
  pub to_d : ring.sent ends.to_d ≡ []

-- a stage has received and sent nothing, and has nobody to wake
pub record UnusedStage (ends : StageEnds) : Type 0 where
  pub from_splitter : ring.received ends.from_splitter ≡ []
  pub to_merge : ring.sent ends.to_merge ≡ []
  pub announced : IsAnnounced ends.to_merge

-- the merge has received nothing
pub record UnusedMerge (ends : MergeEnds) : Type 0 where
  pub order : ring.received ends.order ≡ []
  pub from_i : ring.received ends.from_i ≡ []
  pub from_d : ring.received ends.from_d ≡ []

-- nothing was sent or received on any ring
pub record AreUnused (rings : Rings) : Type 0 where
  pub splitter : UnusedSplitter rings.splitter
  pub i : UnusedStage rings.i
  pub d : UnusedStage rings.d
  pub merge : UnusedMerge rings.merge

-- of each ring, these are the two ends
pub record ArePaired (rings : Rings) : Type 0 where
  pub order : AreEnds rings.splitter.order rings.merge.order
  pub to_i : AreEnds rings.splitter.to_i rings.i.from_splitter
  pub to_d : AreEnds rings.splitter.to_d rings.d.from_splitter
  pub from_i : AreEnds rings.i.to_merge rings.merge.from_i
  pub from_d : AreEnds rings.d.to_merge rings.merge.from_d

-- each ring has this capacity, in messages
pub record HaveCapacity (capacity : ℕ) (rings : Rings) : Type 0 where
  pub order : capacity_of rings.splitter.order ≡ capacity
  pub to_i : capacity_of rings.splitter.to_i ≡ capacity
  pub to_d : capacity_of rings.splitter.to_d ≡ capacity
  pub from_i : capacity_of rings.i.to_merge ≡ capacity
  pub from_d : capacity_of rings.d.to_merge ≡ capacity

-- the outbox of each sender has this capacity, in messages
pub record HaveOutboxes (capacity : ℕ) (rings : Rings) : Type 0 where
  pub order : outbox_of rings.splitter.order ≡ capacity
  pub to_i : outbox_of rings.splitter.to_i ≡ capacity
  pub to_d : outbox_of rings.splitter.to_d ≡ capacity
  pub from_i : outbox_of rings.i.to_merge ≡ capacity
  pub from_d : outbox_of rings.d.to_merge ≡ capacity

-- the messages that a ring has carried, oldest first
pub record Carried (Message : Type 0) : Type 0 where
  pub sent : List Message
  pub received : List Message

-- what a ring has carried if exactly these messages were sent and all were received, in order
abbrev pub whole : {Message : Type 0} → List Message → Carried Message
whole messages = record { sent = messages; received = messages }

-- what the ring with the order of turns has carried
abbrev pub on_order : Rings → Carried Turn
on_order r = record { sent = ring.sent r.splitter.order; received = ring.received r.merge.order }

-- what the ring to I has carried
abbrev pub on_to_i : Rings → Carried ToStage
on_to_i r = record { sent = ring.sent r.splitter.to_i; received = ring.received r.i.from_splitter }

-- what the ring to D has carried
abbrev pub on_to_d : Rings → Carried ToStage
on_to_d r = record { sent = ring.sent r.splitter.to_d; received = ring.received r.d.from_splitter }

-- what the ring from I has carried
abbrev pub on_from_i : Rings → Carried FromStage
on_from_i r = record { sent = ring.sent r.i.to_merge; received = ring.received r.merge.from_i }

-- what the ring from D has carried
abbrev pub on_from_d : Rings → Carried FromStage
on_from_d r = record { sent = ring.sent r.d.to_merge; received = ring.received r.merge.from_d }

-- both values are the same rings: two ends of each, which have carried the same messages
pub record SameRings (was now : Rings) : Type 0 where
  pub splitter : SameSplitterEnds was.splitter now.splitter
  pub i : SameStageEnds was.i now.i
  pub d : SameStageEnds was.d now.d
  pub paired : ArePaired now
  pub order : on_order now ≡ on_order was
  pub to_i : on_to_i now ≡ on_to_i was
  pub to_d : on_to_d now ≡ on_to_d was
  pub from_i : on_from_i now ≡ on_from_i was
  pub from_d : on_from_d now ≡ on_from_d was

-- every message that was sent on a ring was received
abbrev pub WasReceived : {Message : Type 0} → Carried Message → Type 0
WasReceived carried = carried.received ≡ carried.sent

-- every message that was sent on any ring was received
pub record AllReceived (rings : Rings) : Type 0 where
  pub order : WasReceived (on_order rings)
  pub to_i : WasReceived (on_to_i rings)
  pub to_d : WasReceived (on_to_d rings)
  pub from_i : WasReceived (on_from_i rings)
  pub from_d : WasReceived (on_from_d rings)
