use Rattle.std.proofs.Common.{◌∙◌}
use Rattle.grid_core.specs.Caches.{together_rules, apart_rules, shades_rules}
use Rattle.grid_core.specs.Engines.{engine_rules}
use Rattle.grid_core.proofs.Kept.{seated-same, sized-same}
use Rattle.grid_core.proofs.Seats.{written-seated}
use Rattle.grid_core.proofs.engine.Engine.flush.Goals as goal

pub invariant_of-self-2 : goal.invariant_of-self-2
invariant_of-self-2 c =
    let old = c.args.self.now in
    record {
      seated = seated-same old.policy c.flush.new.self old.caches c.flush.ensures.rules
          old.seats.items old.seated;
      sized = sized-same _ c.flush.new.self old.caches c.flush.ensures.rules old.sized;
      step = λ works. c.in-Ok.ensures.step old.served (old.step works);
    }

pub returns-clause-lists : goal.returns-clause-lists
unfolding engine_rules
returns-clause-lists c = λ blocks h e.
    let old = c.args.self.now in
    c.in-Ok.ensures.lists blocks h e.caches
    ∙ written-seated h old.policy (together_rules old.caches)
    (apart_rules old.caches) (shades_rules old.caches) old.seats.items old.seated
