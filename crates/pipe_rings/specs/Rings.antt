-- What contracts say of the two ends of a ring: which ring it is, what was sent, what was received.
use Rattle.std.specs.Prelude.{◌≡◌, ◌⊎◌, ℕ, ◌-◌, ◌<◌, List, [], ◌++◌, length, take, drop, min, max}
use Rattle.rtrb.specs.Ring as ring
use Rattle.pipe_rings.specs.declared.tx.Tx.{Tx}
use Rattle.pipe_rings.specs.declared.rx.Rx.{Rx}

-- the capacity of an outbox for which this number was given: at least 1, and at most 512
abbrev pub outbox_for : ℕ → ℕ
outbox_for count = max 1 (min count 512)

module _ {T : Type 0} where
  -- the items that were posted and are still in the outbox, not yet in the ring
  unfoldable pub posted : Tx T → List T
  posted tx = drop tx.first tx.outbox.items

  -- all items sent so far, oldest first: those that went into the ring, then those in the outbox
  unfoldable pub sent : Tx T → List T
  sent tx = ring.sent tx.end ++ drop tx.first tx.outbox.items

  -- the outbox has room for another item
  unfoldable pub HasRoom : Tx T → Type 0
  HasRoom tx = length tx.outbox.items < tx.room

  -- either the outbox is empty, or the sender knows of no free place in the ring
  unfoldable pub LookedForRoom : Tx T → Type 0
  LookedForRoom tx = (posted tx ≡ []) ⊎ (ring.known_free tx.end ≡ 0)

  -- the sender's count of the items moved into the ring since the receiver's bell was last rung
  abbrev pub unannounced_of : Tx T → ℕ
  unannounced_of tx = tx.unannounced

  -- the count of items moved into the ring since the receiver's bell was last rung is 0
  abbrev pub IsAnnounced : Tx T → Type 0
  IsAnnounced tx = tx.unannounced ≡ 0

  -- all items received so far, the oldest first: those that were taken out of the ring, without the
  -- ones that still wait in the batch
  unfoldable pub received : Rx T → List T
  received rx = take (length (ring.received rx.end) - rx.left) (ring.received rx.end)

  -- the batch is empty, and the receiver knows of no item in the ring
  unfoldable pub LookedForItem : Rx T → Type 0
  LookedForItem rx = (rx.left ≡ 0) × (ring.known_items rx.end ≡ [])

  -- the capacity of the ring, in items
  abbrev pub capacity_of : Tx T → ℕ
  capacity_of tx = ring.producer_capacity tx.end

  -- the capacity of the outbox, in items
  abbrev pub outbox_of : Tx T → ℕ
  outbox_of tx = tx.room

  -- the two ends of one ring
  abbrev pub AreEnds : Tx T → Rx T → Type 0
  AreEnds tx rx = ring.IsPair tx.end rx.end

  -- both are the sending end of the same ring, with outboxes of the same capacity
  abbrev pub SameTx : Tx T → Tx T → Type 0
  SameTx was now = ring.SameProducer was.end now.end × (now.room ≡ was.room)

  -- both are the receiving end of the same ring
  abbrev pub SameRx : Rx T → Rx T → Type 0
  SameRx was now = ring.SameConsumer was.end now.end

  -- the first list is the second one, followed by `count` more items
  abbrev pub IsBehindBy : ℕ → List T → List T → Type 0
  IsBehindBy count sent received =
      (rest : List T) × (length rest ≡ count) × (sent ≡ received ++ rest)
