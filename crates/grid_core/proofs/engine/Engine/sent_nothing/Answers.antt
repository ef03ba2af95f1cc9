use Rattle.std.proofs.Common.{get_or, subst}
use Rattle.cache_core.specs.History.{Rules}
use Rattle.cache_core.specs.Parts.{SendsNothing, outcome_of}
use Rattle.cache_core.specs.Standing.{rules_from}
use Rattle.grid_core.specs.Engines.{engine_rules}
use Rattle.grid_core.proofs.Silence.{at-rules}
use Rattle.grid_core.proofs.engine.Engine.sent_nothing.Goals as goal

pub returns : goal.returns
unfolding engine_rules
returns c = λ none h x answered index lt.
    let engine = c.args.self.now in
    let seats = engine.seats.items in
    let P : Rules → Type 0 = λ r. SendsNothing (outcome_of r h x) in
    at-rules (λ s. rules_from s.geometry engine.policy) P seats
    (λ k d in_seats.
    let seated = engine.seated k d in_seats in
    subst P seated.cell
    (c.sent_nothing.ensures none h x answered.answers (get_or seats k d).cell seated.cell_there))
    index lt
