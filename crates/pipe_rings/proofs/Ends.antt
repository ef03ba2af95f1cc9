-- Each call leaves an end the end of the same ring, so two ends of one ring stay that. An end that
-- has sent nothing holds nothing back.
use Rattle.std.proofs.Common.{◌≡◌, [], length, drop, arith, ap, length-append}
use Rattle.rtrb.specs.Ring as ring
use Rattle.pipe_rings.specs.declared.tx.Tx.{Tx}
use Rattle.pipe_rings.specs.declared.rx.Rx.{Rx}
use Rattle.pipe_rings.specs.Rings.{sent, posted, AreEnds, SameTx, SameRx}

module _ {T : Type 0} where
  pub tx_stays : (a b c : Tx T) → SameTx a b → SameTx b c → SameTx a c
  tx_stays a b c s t = search

  pub rx_stays : (a b c : Rx T) → SameRx a b → SameRx b c → SameRx a c
  rx_stays a b c s t = search

  pub ends_stay : (a b : Tx T) (c d : Rx T) → SameTx a b → SameRx c d → AreEnds a c → AreEnds b d
  ends_stay a b c d s r e = search

  pub none_held : (tx : Tx T) → sent tx ≡ [] → length (posted tx) ≡ 0
  unfolding sent posted
  none_held tx none =
      let parts = length-append (ring.sent tx.end) (drop tx.first tx.outbox.items) in
      omega (parts, ap length none, arith)
