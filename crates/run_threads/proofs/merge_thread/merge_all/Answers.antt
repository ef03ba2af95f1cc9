use Rattle.std.proofs.Common.{sym}
use Rattle.run_threads.proofs.Merges.{merges-nothing, merges-turn}
use Rattle.run_threads.proofs.merge_thread.merge_all.Goals as goal

pub loop-init : goal.loop-init
loop-init g c =
    merges-nothing c.args.u.now c.args.ends.now c.new-merge.result c.new-merge.ensures
    c.requires.new c.requires.unused

pub loop-preserved-in-Order : goal.loop-preserved-in-Order
loop-preserved-in-Order g c =
    merges-turn c.args.u.now c.args.ends.now c.loop.merge c.loop.u c.loop.ends
    c.in_ok-turn-in-Order.turn c.next_turn.new.ends c.turn.new.self c.loop.invariant
    (sym c.in-Order.ensures) c.turn.ensures c.next_turn.ensures.order
    c.in_ok-turn-in-Order.ensures.received c.next_turn.ensures.from_i c.next_turn.ensures.from_d
