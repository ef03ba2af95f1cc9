use Rattle.grid_core.proofs.Kept.{seated-same, sized-same}
use Rattle.grid_core.proofs.engine.Engine.flush_unlisted.Goals as goal

pub invariant_of-self-2 : goal.invariant_of-self-2
invariant_of-self-2 c =
    let old = c.args.self.now in
    record {
      seated = seated-same old.policy c.flush_unlisted.new.self old.caches
          c.flush_unlisted.ensures.rules old.seats.items old.seated;
      sized = sized-same _ c.flush_unlisted.new.self old.caches
          c.flush_unlisted.ensures.rules old.sized;
      step = λ works. c.in-Ok.ensures.step old.served (old.step works);
    }
