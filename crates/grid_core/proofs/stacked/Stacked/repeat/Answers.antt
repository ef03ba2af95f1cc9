use Rattle.std.proofs.Common.{◌/◌, ◌+◌, true, sym, subst, refl, arith}
use Rattle.std.specs.List.{All}
use Rattle.std.proofs.lemmas.Bool.{false≢true}
use Rattle.cache_core.specs.Geometry.{bsize_of}
use Rattle.cache_core.specs.History.{is_write}
use Rattle.cache_core.proofs.CacheFacts.{IsWithin-with_one}
use Rattle.grid_core.specs.Cells.{KnowsPrior}
use Rattle.grid_core.specs.Shadows.{levels_in, shadow_sizes}
use Rattle.grid_core.specs.StackedCells.{stacked_served}
use Rattle.grid_core.specs.Totals.{total}
use Rattle.grid_core.proofs.Again.{after-again, all-again, known-last, last-of, prior-again}
use Rattle.grid_core.proofs.Sharing.{alike-again}
use Rattle.grid_core.proofs.StackBounds.{within-stacks}
use Rattle.grid_core.proofs.Totals.{within-more}
use Rattle.grid_core.proofs.stacked.Stacked.repeat.Goals as goal

pub invariant_of-self : goal.invariant_of-self
unfolding stacked_served
invariant_of-self c =
    let old = c.args.self.now in
    let n = old.served in
    let x = c.args.access in
    let flushes = old.alike_within.flushes in
    record {
      rises = old.rises;
      placed = old.placed;
      ranked = old.ranked;
      one_size = old.one_size;
      one_policy = old.one_policy;
      told = old.told;
      bounded = within-stacks n (n + 1) (omega arith) old.stacks.items old.bounded;
      alike_within = record {
        fetches = rw c.count.ensures (IsWithin-with_one x true old.alike.fetches n
            old.alike_within.fetches);
        firsts = within-more old.alike.firsts n (n + 1) (omega arith) old.alike_within.firsts;
        flushes = omega arith;
      };
      small = old.small;
      leveled = within-more (total (levels_in old.shadows)) n (n + 1) (omega arith) old.leveled;
      few = let lt = c.requires.few in omega arith;
      lived = old.lived;
    }

pub returns-clause-stands : goal.returns-clause-stands
unfolding stacked_served
returns-clause-stands c = λ blocks h e.
    let old = c.args.self.now in
    let block = c.args.access.addr / bsize_of old.geometry in
    let last = last-of blocks old.geometry h old.stacks.items old.shadows old.shapes.items block
    (is_write c.args.access) e.state c.requires.again in
    record {
      served = (let n = e.served in omega arith);
      alike = alike-again old.geometry h c.args.access old.alike _ e.alike
          (known-last old.geometry h block last) c.count.ensures refl refl;
      state = after-again blocks old.geometry h c.args.access (shadow_sizes old.shadows)
          old.stacks.items old.shadows old.shapes.items old.one_size old.ranked
          c.requires.again e.state;
    }

pub returns-clause-answers : goal.returns-clause-answers
returns-clause-answers c = λ blocks h e.
    let old = c.args.self.now in
    let x = c.args.access in
    let g = old.geometry in
    let shapes = old.shapes.items in
    let last = last-of blocks g h old.stacks.items old.shadows shapes (x.addr / bsize_of g)
    (is_write x) e.state c.requires.again in
    record {
      write = c.writes-self.ensures;
      again = λ _. all-again g h x (shadow_sizes old.shadows) old.stacks.items shapes last
          old.placed old.ranked;
      moved = λ e. absurd (false≢true (sym e));
      prior = subst (λ p. All (λ s. KnowsPrior s h x p) shapes)
          (sym c.prior_of_last-self.ensures)
          (prior-again g h x (shadow_sizes old.shadows) shapes last old.ranked);
    }
