use Rattle.std.proofs.Common.{List, ◌∷◌, ℕ, sym, ap, subst, ◌∙◌}
use Rattle.std.proofs.lemmas.Result.{on_ok_weaker}
use Rattle.cache_core.specs.History.{access as accessed}
use Rattle.grid_core.specs.Engines.{EngineStandsBy, bsize_in, engine_has_failed, engine_served}
use Rattle.grid_core.specs.Engines.{numbered_in}
use Rattle.grid_core.specs.Numbered.{blocks_in}
use Rattle.grid_core.specs.Numbers.{number_at}
use Rattle.grid_core.proofs.MoreNumbers.{engine-more}
use Rattle.grid_core.proofs.engine.Engine.access.Goals as goal

pub returns-clause-stands : goal.returns-clause-stands
unfolding bsize_in engine_has_failed numbered_in engine_served
returns-clause-stands c =
    on_ok_weaker c.access_numbered.result (λ stands h e.
    let old = c.args.self.now in
    let blocks = blocks_in c.number.new.self in
    let more = engine-more (numbered_in old) blocks old h c.number.ensures.grows e in
    subst (λ (bs : List ℕ). EngineStandsBy bs c.access_numbered.new.self
    (accessed c.args.access ∷ h)) (sym c.access_numbered.ensures.numbers)
    (stands blocks h
    (ap (number_at blocks) (sym c.block-block.ensures) ∙ c.in-Ok.ensures.number)
    (record { working = more.working; served = more.served; caches = more.caches })))
    c.access_numbered.ensures.stands

pub returns-clause-answers : goal.returns-clause-answers
unfolding bsize_in engine_has_failed numbered_in engine_served
returns-clause-answers c =
    on_ok_weaker c.access_numbered.result (λ answers h e.
    let old = c.args.self.now in
    let blocks = blocks_in c.number.new.self in
    let more = engine-more (numbered_in old) blocks old h c.number.ensures.grows e in
    answers blocks h
    (ap (number_at blocks) (sym c.block-block.ensures) ∙ c.in-Ok.ensures.number)
    (record { working = more.working; served = more.served; caches = more.caches }))
    c.access_numbered.ensures.answers
