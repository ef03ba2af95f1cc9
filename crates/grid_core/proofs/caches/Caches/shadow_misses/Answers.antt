use Rattle.std.proofs.Common.{◌<◌, length, sym, ap, subst, ◌∙◌, arith}
use Rattle.cache_core.specs.Counts.{counts_of}
use Rattle.grid_core.specs.FullyAssociative.{shadow_misses}
use Rattle.grid_core.specs.Caches.{together_rules, shades_rules}
use Rattle.grid_core.specs.Places.{IsPlace, shadow_placed}
use Rattle.grid_core.proofs.caches.Caches.shadow_misses.Goals as goal

pub returns-in-Together-clause-counted : goal.returns-in-Together-clause-counted
unfolding shadow_misses
returns-in-Together-clause-counted c = λ blocks h e.
    let old = c.args.self.now in
    let rs = together_rules old in
    let ss = shades_rules old in
    let inside : c.in-Together.index < length rs =
    subst (λ p. IsPlace (length rs) (length ss) p) c.in-Together.is c.requires in
    c.shadow_misses.ensures.counted blocks h (e.stacked (omega arith))
    ∙ ap (λ p. (counts_of (shadow_placed rs ss p) h).misses) (sym c.in-Together.is)
