use Rattle.std.proofs.Common.{◌≡◌, true, ◌/◌, ◌||◌, ◌==◌, ℕ, not, List, ◌∷◌}
use Rattle.std.proofs.Common.{Some, length, get_or, refl, ap, subst, ◌∙◌, arith}
use Rattle.std.proofs.lemmas.Bool.{false≢true}
use Rattle.std.proofs.Math.Logic.{∥∥₁_map}
use Rattle.cache_core.specs.History.{is_write, access as accessed}
use Rattle.cache_core.specs.Geometry.{bsize_of}
use Rattle.cache_core.specs.Kinds.{shadow_of}
use Rattle.cache_core.specs.Residents.{distinct, renewals}
use Rattle.cache_core.proofs.CacheFacts.{IsWithin-with_one}
use Rattle.marked_list.specs.Recency.{level_of, brought_front}
use Rattle.grid_core.specs.Numbers.{number_at}
use Rattle.grid_core.specs.Recent.{after_use}
use Rattle.grid_core.specs.Shadows.{HoldsOrder, is_known, levels_in, recent_in}
use Rattle.grid_core.specs.Shadows.{shadow_sizes}
use Rattle.grid_core.specs.State.{base_rules}
use Rattle.grid_core.specs.StackedCells.{stacked_served}
use Rattle.grid_core.specs.Standing.{rules_of_rows}
use Rattle.grid_core.specs.Totals.{total}
use Rattle.grid_core.proofs.After.{after-access, level-is, shapes-prior}
use Rattle.grid_core.proofs.Again.{size-at}
use Rattle.grid_core.proofs.Sharing.{alike-access}
use Rattle.grid_core.proofs.Sizes.{rising-is}
use Rattle.grid_core.proofs.StackBounds.{low-levels, within-events}
use Rattle.grid_core.proofs.StackRules.{stacked}
use Rattle.grid_core.proofs.stacked.Stacked.serve.Goals as goal

pub touch-requires : goal.touch-requires
touch-requires c = within-events c.args.self.now c.args.self.now.leveled

pub serve_rows-requires-clause-block : goal.serve_rows-requires-clause-block
serve_rows-requires-clause-block c =
    let old = c.args.self.now in
    (bsize_of old.geometry, old.one_size, c.requires.block)

pub serve_rows-requires-clause-levels : goal.serve_rows-requires-clause-levels
serve_rows-requires-clause-levels c =
    let old = c.args.self.now in
    low-levels (length (shadow_sizes old.shadows)) c.in-Ok.prior.level old.stacks.items old.told
    c.in-Ok.ensures.low

pub serve_rows-requires-clause-within : goal.serve_rows-requires-clause-within
unfolding stacked_served
serve_rows-requires-clause-within c =
    let old = c.args.self.now in
    let few = c.requires.few in
    (old.served, old.bounded, omega arith)

pub serve_rows-requires-clause-lived : goal.serve_rows-requires-clause-lived
serve_rows-requires-clause-lived c =
    let old = c.args.self.now in
    (bsize_of old.geometry, old.one_size, old.lived)

pub invariant_of-self-2 : goal.invariant_of-self-2
unfolding stacked_served
invariant_of-self-2 c =
    let old = c.args.self.now in
    let x = c.args.access in
    let n = old.served in
    let flushes = old.alike_within.flushes in
    record {
      rises = rw c.in-Ok.ensures.sizes old.rises;
      placed = rw c.serve_rows.ensures.rules old.placed;
      ranked = rw c.in-Ok.ensures.sizes old.ranked;
      one_size = rw c.serve_rows.ensures.rules old.one_size;
      one_policy = old.one_policy;
      told = rw (c.serve_rows.ensures.levels, c.in-Ok.ensures.sizes) old.told;
      bounded = c.serve_rows.ensures.bounds n old.bounded;
      alike_within = record {
        fetches = rw c.count.ensures (IsWithin-with_one x true old.alike.fetches n
            old.alike_within.fetches);
        firsts = rw c.count-2.ensures
            (IsWithin-with_one x (not c.in-Ok.prior.known) old.alike.firsts n
            old.alike_within.firsts);
        flushes = omega arith;
      };
      small = rw c.in-Ok.ensures.sizes old.small;
      leveled = rw c.in-Ok.ensures.levels
          (IsWithin-with_one x true (total (levels_in old.shadows)) n old.leveled);
      few = let lt = c.requires.few in omega arith;
      lived = ∥∥₁_map old.lived (λ w. (
        accessed x ∷ w.0,
        c.serve_rows.ensures.stands (bsize_of old.geometry) w.0 old.one_size w.1,
      ));
    }

pub returns-clause-stands : goal.returns-clause-stands
unfolding stacked_served
returns-clause-stands c = λ blocks h is e.
    let old = c.args.self.now in
    let x = c.args.access in
    let g = old.geometry in
    let sizes = shadow_sizes old.shadows in
    let stacks = old.stacks.items in
    let block = c.requires.block in
    let st = e.state in
    let number : number_at blocks c.args.block ≡ Some c.args.number =
    ap (number_at blocks) block ∙ is in
    let known = c.in-Ok.ensures.known blocks number ∙ ap (is_known blocks old.shadows) block in
    let level : (zs : List ℕ) → HoldsOrder blocks old.shadows zs
    → c.in-Ok.prior.level ≡ level_of sizes zs (x.addr / bsize_of g) =
    λ zs held. c.in-Ok.ensures.level blocks zs number held ∙ ap (level_of sizes zs) block in
    let ys = distinct (renewals (shadow_of (base_rules g)) h) in
    record {
      served = (let n = e.served in omega arith);
      alike = alike-access g h x old.alike _ c.in-Ok.prior.known e.alike
          (known ∙ st.known (x.addr / bsize_of g)) c.count.ensures c.count-2.ensures refl;
      state = after-access g h x blocks stacks c.serve_rows.new.stacks.items old.shadows
          c.touch.new.self old.shapes.items c.in-Ok.prior st
          (shapes-prior g h x blocks sizes (rising-is sizes old.rises) stacks old.shadows
          old.shapes.items c.in-Ok.prior st known level old.shapes.items old.ranked)
          (c.serve_rows.ensures.stands (bsize_of g) h old.one_size st.rows)
          (c.serve_rows.ensures.counted (bsize_of g) sizes h old.one_size st.rows
          (λ k d lt. level-is g h x sizes (rules_of_rows (get_or stacks k d))
          (stacked (get_or stacks k d))
          (size-at (bsize_of g) stacks old.one_size k d lt) c.in-Ok.prior.level
          (level ys st.order)) st.counted)
          (λ zs held. subst (λ b. HoldsOrder blocks c.touch.new.self (brought_front b zs)) block
          (c.in-Ok.ensures.order blocks zs number held))
          (λ q. c.in-Ok.ensures.adds blocks number q
          ∙ ap (λ b. b == q || is_known blocks old.shadows q) block)
          (c.in-Ok.ensures.numbers blocks number st.numbered)
          (c.in-Ok.ensures.recent
          ∙ ap (λ d. after_use d (is_write x) (recent_in old.shadows)) block)
          c.in-Ok.ensures.far c.in-Ok.ensures.sizes;
    }

pub returns-clause-answers : goal.returns-clause-answers
returns-clause-answers c = λ blocks h is e.
    let old = c.args.self.now in
    let x = c.args.access in
    let g = old.geometry in
    let sizes = shadow_sizes old.shadows in
    let block = c.requires.block in
    let number : number_at blocks c.args.block ≡ Some c.args.number =
    ap (number_at blocks) block ∙ is in
    record {
      write = c.writes-self.ensures;
      again = λ e. absurd (false≢true e);
      moved = λ _. c.serve_rows.ensures.moved (bsize_of g) h old.one_size e.state.rows;
      prior = shapes-prior g h x blocks sizes (rising-is sizes old.rises) old.stacks.items
          old.shadows old.shapes.items c.in-Ok.prior e.state
          (c.in-Ok.ensures.known blocks number ∙ ap (is_known blocks old.shadows) block)
          (λ zs held. c.in-Ok.ensures.level blocks zs number held ∙ ap (level_of sizes zs) block)
          old.shapes.items old.ranked;
    }
