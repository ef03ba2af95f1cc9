use Rattle.std.proofs.Common.{sym, subst, arith}
use Rattle.grid_core.specs.Caches.{together_rules}
use Rattle.grid_core.specs.Engines.{bsize_in, engine_has_failed, engine_served}
use Rattle.grid_core.specs.Numbers.{IsNumberIn, IsNumberOf}
use Rattle.grid_core.proofs.Kept.{seated-same, sized-same}
use Rattle.grid_core.proofs.engine.Engine.access_numbered.Goals as goal

pub invariant_of-self-2 : goal.invariant_of-self-2
invariant_of-self-2 c =
    let old = c.args.self.now in
    record {
      seated = seated-same old.policy c.access.new.self old.caches c.access.ensures.rules
          old.seats.items old.seated;
      sized = sized-same _ c.access.new.self old.caches c.access.ensures.rules old.sized;
      step = λ works. c.in-Ok.ensures.step old.served (old.step works);
    }

pub returns-clause-stands : goal.returns-clause-stands
unfolding bsize_in engine_has_failed engine_served
returns-clause-stands c = λ blocks h is e.
    let old = c.args.self.now in
    let told : IsNumberIn blocks (together_rules old.caches) c.args.access c.args.number =
    λ some. subst (λ n. IsNumberOf blocks n c.args.access c.args.number)
    (sym (old.sized some)) is in
    record {
      working = e.working;
      served = (let n = e.served in omega arith);
      caches = c.in-Ok.ensures.stands blocks h told e.caches;
    }

pub returns-clause-answers : goal.returns-clause-answers
unfolding bsize_in
returns-clause-answers c = λ blocks h is e.
    let old = c.args.self.now in
    let told : IsNumberIn blocks (together_rules old.caches) c.args.access c.args.number =
    λ some. subst (λ n. IsNumberOf blocks n c.args.access c.args.number)
    (sym (old.sized some)) is in
    record { answers = c.in-Ok.ensures.answers blocks h told e.caches }
