use Rattle.std.proofs.Common.{arith}
use Rattle.rtrb.specs.Ring as ring
use Rattle.pipe_rings.specs.Rings.{received}
use Rattle.pipe_rings.proofs.rx.Rx.next_left.Goals as goal
use Rattle.pipe_rings.proofs.Batches.{one_more}

pub invariant_of-self : goal.invariant_of-self
invariant_of-self g c =
    let s = c.args.self.now in
    let more = one_more (ring.received s.end) s.batch.items s.count s.left
    c.index-item.result.now c.requires s.bounds s.kept c.index-item.ensures in
    record {
      bounds =
          (let b = s.bounds in omega arith, s.bounds.1, let b = s.bounds in omega arith);
      at_most = s.at_most;
      kept = more.1;
    }

pub returns-clause-item : goal.returns-clause-item
unfolding received
returns-clause-item g c =
    let s = c.args.self.now in
    (one_more (ring.received s.end) s.batch.items s.count s.left c.index-item.result.now
    c.requires s.bounds s.kept c.index-item.ensures).0
