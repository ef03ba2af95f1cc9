use Rattle.std.proofs.Common.{◌+◌, [], ◌∷◌, refl, arith}
use Rattle.cache_core.specs.History.{flush as flushed}
use Rattle.grid_core.specs.Shadows.{levels_in, shadow_sizes}
use Rattle.grid_core.specs.StackedCells.{stacked_served}
use Rattle.grid_core.specs.Totals.{total}
use Rattle.grid_core.proofs.After.{after-flush}
use Rattle.grid_core.proofs.Sharing.{alike-flush}
use Rattle.grid_core.proofs.StackBounds.{within-stacks}
use Rattle.grid_core.proofs.Totals.{within-more}
use Rattle.grid_core.proofs.stacked.Stacked.flush.Goals as goal

pub invariant_of-self : goal.invariant_of-self
unfolding stacked_served
invariant_of-self c =
    let old = c.args.self.now in
    let n = old.served in
    let flushes = old.alike_within.flushes in
    record {
      rises = rw c.clear.ensures.sizes old.rises;
      placed = rw c.clear_rows.ensures.rules old.placed;
      ranked = rw c.clear.ensures.sizes old.ranked;
      one_size = rw c.clear_rows.ensures.rules old.one_size;
      one_policy = old.one_policy;
      told = rw (c.clear_rows.ensures.levels, c.clear.ensures.sizes) old.told;
      bounded = within-stacks n (n + 1) (omega arith) c.clear_rows.new.stacks.items
          (c.clear_rows.ensures.bounds n old.bounded);
      alike_within = record {
        fetches = within-more old.alike.fetches n (n + 1) (omega arith) old.alike_within.fetches;
        firsts = within-more old.alike.firsts n (n + 1) (omega arith) old.alike_within.firsts;
        flushes = omega arith;
      };
      small = rw c.clear.ensures.sizes old.small;
      leveled = rw c.clear.ensures.levels
          (within-more (total (levels_in old.shadows)) n (n + 1) (omega arith) old.leveled);
      few = let lt = c.requires.few in omega arith;
      lived = ∣ (flushed ∷ [], c.clear_rows.ensures.stands []) ∣₁;
    }

pub returns-clause-stands : goal.returns-clause-stands
unfolding stacked_served
returns-clause-stands c = λ blocks h e.
    let old = c.args.self.now in
    record {
      served = (let n = e.served in omega arith);
      alike = alike-flush old.geometry h old.alike _ e.alike refl refl refl;
      state = after-flush old.geometry h blocks old.stacks.items c.clear_rows.new.stacks.items
          old.shadows c.clear.new.self old.shapes.items e.state (c.clear_rows.ensures.stands h)
          (c.clear_rows.ensures.counted (shadow_sizes old.shadows) h e.state.counted)
          (c.clear.ensures.order blocks) (c.clear.ensures.known blocks)
          (c.clear.ensures.numbers blocks e.state.numbered) c.clear.ensures.recent
          c.clear.ensures.levels c.clear.ensures.sizes;
    }
