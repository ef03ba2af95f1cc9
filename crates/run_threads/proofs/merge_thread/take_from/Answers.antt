use Rattle.stage_core.specs.Merging.{wanted}
use Rattle.stage_core.proofs.Sides.{one-wanted}
use Rattle.run_threads.proofs.Merges.{merges-from}
use Rattle.run_threads.proofs.merge_thread.take_from.Goals as goal

pub take_and_serve-requires : goal.take_and_serve-requires
take_and_serve-requires g c = one-wanted c.args.side (wanted c.args.merge.now) c.requires.wants

pub returns-clause-served : goal.returns-clause-served
returns-clause-served g c began start going =
    merges-from began start c.args.merge.now c.args.u.now c.args.ends.now
    c.in_ok-message.message c.take_and_serve.new.merge c.take_and_serve.new.u
    c.next_from.new.ends going c.args.side c.requires.wants c.next_from.ensures.ring
    c.in_ok-message.ensures.received c.in_ok-take_and_serve.ensures.merge
    c.in_ok-take_and_serve.ensures.stands c.take_and_serve.ensures.rules
