use Rattle.std.proofs.lemmas.Result.{on_ok_weaker}
use Rattle.run_threads.proofs.Splitting.{sends-event}
use Rattle.run_threads.proofs.split.send_some.Goals as goal

pub returns-clause-posted : goal.returns-clause-posted
returns-clause-posted g c =
    let routed = c.route.ensures in
    on_ok_weaker c.send_routed.result (λ sends es going. rw c.in-Some.is
    (sends-event es c.in-Some.event c.args.splitter.now c.route.result c.args.ends.now
    c.send_routed.new.ends going c.requires.counted routed.turn routed.i routed.d sends))
    c.send_routed.ensures.sent
