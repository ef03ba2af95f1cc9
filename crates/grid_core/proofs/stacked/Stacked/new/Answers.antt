use Rattle.std.proofs.Common.{◌≡◌, ◌<◌, ◌^◌, ◌+◌, List, [], ℕ, length, refl, sym, ap, subst}
use Rattle.std.proofs.Common.{◌∙◌, arith}
use Rattle.std.specs.List.{All}
use Rattle.cache_core.specs.Dirty.{rising}
use Rattle.cache_core.specs.Counting.{IsWithin}
use Rattle.cache_core.proofs.CacheFacts.{AreWithin-none}
use Rattle.grid_core.specs.Shadows.{shadow_sizes}
use Rattle.grid_core.specs.Standing.{IsEmptyStack}
use Rattle.grid_core.specs.State.{IsRanked, IsWithinAlike}
use Rattle.grid_core.specs.StackedCells.{stacked_rules, stacked_served}
use Rattle.grid_core.proofs.After.{after-start}
use Rattle.grid_core.proofs.Sharing.{alike-start}
use Rattle.grid_core.proofs.StackBounds.{told-all}
use Rattle.grid_core.proofs.stacked.Stacked.new.Goals as goal

pub invariant_of-result : goal.invariant_of-result
invariant_of-result c =
    let shadows = c.in_ok-shadows.shadows in
    let stacks = c.in_ok-parts.parts.stacks.items in
    let shapes = c.in_ok-parts.parts.shapes.items in
    let first = c.args.first in
    let sizes : shadow_sizes shadows ≡ c.in_ok-sizes.sizes.items =
    c.in_ok-shadows.ensures.sizes ∙ c.deref.ensures.value in
    let same : shadow_sizes shadows ≡ c.deref-2.result.now =
    sizes ∙ sym c.deref-2.ensures.value in
    let none = AreWithin-none.fetches in
    let empty = c.in_ok-parts.ensures.empty in
    record {
      rises = ap rising sizes ∙ c.in_ok-sizes.ensures.rise ∙ sym sizes;
      placed = c.in_ok-parts.ensures.placed;
      ranked = subst (λ (l : List ℕ). All (IsRanked l first) shapes) (sym same)
          c.in_ok-parts.ensures.ranked;
      one_size = c.in_ok-parts.ensures.one_size;
      one_policy = c.in_ok-parts.ensures.one_policy;
      told = told-all (length (shadow_sizes shadows) + 1) stacks (subst (λ (l : List ℕ).
          All (IsEmptyStack (length l + 1)) stacks) (sym same) empty);
      bounded = λ k d lt. (empty k d lt).within;
      alike_within = subst (IsWithinAlike 0) (sym c.none_alike.ensures)
          (record { fetches = none; firsts = none; flushes = omega arith });
      small = subst (λ (l : List ℕ). length l < 2 ^ 60) (sym sizes)
          (let ok = c.in_ok-sizes.sizes.ok in let small = c.in_ok-sizes.sizes.small in omega arith);
      leveled = subst (λ p. IsWithin p 0) (sym c.in_ok-shadows.ensures.levels) none;
      few = omega arith;
      lived = ∣ ([], λ k d lt. (empty k d lt).stands) ∣₁;
    }

pub returns-clause-stands : goal.returns-clause-stands
unfolding stacked_served
returns-clause-stands c = λ blocks.
    let shadows = c.in_ok-shadows.shadows in
    let sizes = c.deref-2.result.now in
    record {
      served = refl;
      alike = alike-start c.args.first _ (ap (λ a. a.fetches) c.none_alike.ensures)
          (ap (λ a. a.firsts) c.none_alike.ensures) (ap (λ a. a.flushes) c.none_alike.ensures);
      state = after-start blocks c.args.first c.in_ok-parts.parts.stacks.items shadows
          c.in_ok-parts.parts.shapes.items (length sizes + 1) c.in_ok-parts.ensures.empty
          (c.in_ok-shadows.ensures.order blocks) (c.in_ok-shadows.ensures.known blocks)
          (c.in_ok-shadows.ensures.numbers blocks)
          c.in_ok-shadows.ensures.recent c.in_ok-shadows.ensures.far;
    }

pub returns-clause-rules : goal.returns-clause-rules
unfolding stacked_rules
returns-clause-rules c = c.in_ok-parts.ensures.rules
