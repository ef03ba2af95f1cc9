use Rattle.std.proofs.Common.{get_or, refl, subst}
use Rattle.cache_core.specs.History.{Rules}
use Rattle.cache_core.specs.Parts.{SendsNothing, outcome_of}
use Rattle.cache_core.specs.Standing.{rules_from}
use Rattle.grid_core.specs.Engines.{engine_rules}
use Rattle.grid_core.proofs.Kept.{seated-same, sized-same}
use Rattle.grid_core.proofs.Silence.{at-rules}
use Rattle.grid_core.proofs.engine.Engine.again.Goals as goal

pub invariant_of-self-2 : goal.invariant_of-self-2
invariant_of-self-2 c =
    let old = c.args.self.now in
    record {
      seated = seated-same old.policy c.again.new.self old.caches c.again.ensures.rules
          old.seats.items old.seated;
      sized = sized-same _ c.again.new.self old.caches c.again.ensures.rules old.sized;
      step = λ works. c.if-not-again.ensures.step refl old.served (old.step works);
    }

pub returns-clause-silent : goal.returns-clause-silent
unfolding engine_rules
returns-clause-silent c = λ e h x answered index lt.
    let old = c.args.self.now in
    let seats = old.seats.items in
    let P : Rules → Type 0 = λ r. SendsNothing (outcome_of r h x) in
    at-rules (λ s. rules_from s.geometry old.policy) P seats
    (λ k d in_seats.
    let seated = seated-same old.policy c.again.new.self old.caches c.again.ensures.rules seats
    old.seated k d in_seats in
    subst P seated.cell
    (c.if-not-again.ensures.silent e h x answered.answers (get_or seats k d).cell
    seated.cell_there))
    index lt
