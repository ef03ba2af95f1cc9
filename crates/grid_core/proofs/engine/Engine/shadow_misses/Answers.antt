use Rattle.std.proofs.Common.{◌<◌, length, sym, ap, ◌∙◌, arith}
use Rattle.std.proofs.lemmas.List.{length-map, get_or-map}
use Rattle.cache_core.specs.Counts.{counts_of}
use Rattle.cache_core.specs.Kinds.{shadow_of}
use Rattle.cache_core.specs.Standing.{rules_from}
use Rattle.grid_core.specs.declared.places.Seat.{Seat}
use Rattle.grid_core.specs.Caches.{together_rules, shades_rules}
use Rattle.grid_core.specs.Engines.{engine_rules}
use Rattle.grid_core.specs.FullyAssociative.{shadow_misses}
use Rattle.grid_core.specs.Places.{shadow_placed}
use Rattle.grid_core.specs.Written.{no_rules}
use Rattle.grid_core.proofs.engine.Engine.shadow_misses.Goals as goal

pub returns-clause-counted : goal.returns-clause-counted
unfolding engine_rules shadow_misses
returns-clause-counted c = λ blocks h e.
    let old = c.args.self.now in
    let i = c.args.index in
    let v = c.index.result.now in
    let xs = old.seats.items in
    let f = λ (s : Seat). rules_from s.geometry old.policy in
    let rs = together_rules old.caches in
    let ss = shades_rules old.caches in
    let lt : i < length xs = let all = c.requires in omega (arith, length-map xs f) in
    c.shadow_misses.ensures.counted blocks h e.caches
    ∙ ap (λ (s : Seat). (counts_of (shadow_placed rs ss s.shadow) h).misses) c.index.ensures
    ∙ ap (λ r. (counts_of r h).misses) ((old.seated i v lt).shadow
    ∙ ap shadow_of (sym (get_or-map f xs i v no_rules lt)))
