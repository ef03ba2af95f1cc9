use Rattle.std.proofs.Common.{◌≡◌, ◌<◌, ℕ, List, true, eqb, sym, subst}
use Rattle.std.specs.List.{All}
use Rattle.std.proofs.lemmas.List.Filters.{dedup_is}
use Rattle.cache_core.specs.Geometry.{blocks_of}
use Rattle.cache_core.specs.Dirty.{rising}
use Rattle.grid_core.specs.Shapes.{has_size}
use Rattle.grid_core.proofs.Sizes.{sizes-rise, sizes-some, sizes-all}
use Rattle.grid_core.proofs.shapes.rising_sizes.Goals as goal

pub returns-clause-rise : goal.returns-clause-rise
returns-clause-rise c = let P : List ℕ → Type 0 = λ l. rising l ≡ l in
    subst P (sym (dedup_is eqb _ _ c.dedup.ensures.filtered))
    (sizes-rise c.args.geometries.now c.in_ok-sizes.sizes.items c.sort_unstable.new.self.items
    c.in_ok-sizes.ensures
    c.sort_unstable.ensures.permutation c.sort_unstable.ensures.sorted)

pub returns-clause-some : goal.returns-clause-some
returns-clause-some c =
    subst (All (λ size. 0 < size)) (sym (dedup_is eqb _ _ c.dedup.ensures.filtered))
    (sizes-some c.args.geometries.now c.in_ok-sizes.sizes.items c.sort_unstable.new.self.items
    c.in_ok-sizes.ensures c.sort_unstable.ensures.permutation c.sort_unstable.ensures.sorted)

pub returns-clause-all : goal.returns-clause-all
returns-clause-all c =
    let P : List ℕ
    → Type 0 = λ l. All (λ g. has_size l (blocks_of g) ≡ true) c.args.geometries.now in
    subst P (sym (dedup_is eqb _ _ c.dedup.ensures.filtered))
    (sizes-all c.args.geometries.now c.in_ok-sizes.sizes.items c.sort_unstable.new.self.items
    c.in_ok-sizes.ensures c.sort_unstable.ensures.permutation c.sort_unstable.ensures.sorted)
