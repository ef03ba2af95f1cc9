use Rattle.std.proofs.Common.{◌≡◌, ◌+◌, ◌≤◌, ap, sym, subst, refl, ◌∙◌, arith}
use Rattle.std.proofs.Math.Logic.{∥∥₁_map}
use Rattle.cache_core.specs.History.{Rules, block_of}
use Rattle.grid_core.specs.Standing.{IsBehind, rules_of_rows}
use Rattle.grid_core.specs.Ways.{stack_distance}
use Rattle.grid_core.proofs.Counted.{bound-more}
use Rattle.grid_core.proofs.FewerSets.{behind-fewer, behind-searched}
use Rattle.grid_core.proofs.stacks.serve_one.Goals as goal

pub serve-requires-clause-block : goal.serve-requires-clause-block
unfolding rules_of_rows
serve-requires-clause-block c = c.requires.block

pub serve-requires-clause-behind : goal.serve-requires-clause-behind
serve-requires-clause-behind c =
    let old = c.args.stack.now in
    let x = c.args.access in
    ∥∥₁_map c.requires.behind (λ w. (
      w.0,
      w.1,
      subst (λ d. IsBehind d w.0 x (rules_of_rows old)) (sym c.places_in-from.ensures)
          (behind-searched c.args.behind old w.0 x c.last_set-last_set.result
          c.last_set-last_set.ensures (w.2 old refl)),
    ))

pub returns-then-least-last_set-clause-bounds : goal.returns-then-least-last_set-clause-bounds
returns-then-least-last_set-clause-bounds c = λ n all.
    bound-more c.pass.new.self.histogram n (n + 1) (omega arith) (c.pass.ensures.bounds n all)

pub returns-clause-behind : goal.returns-clause-behind
returns-clause-behind c = λ h st before t same few.
    let old = c.args.stack.now in
    let x = c.args.access in
    let r = rules_of_rows old in
    let last : c.last_set-last_set.result + 1 ≡ r.sets = c.last_set-last_set.ensures in
    let at = c.position.ensures ∙ (c.serve.ensures.moved h st).found
    ∙ ap (λ (r : Rules). stack_distance r h (block_of r x)) c.serve.ensures.rules in
    let le : (rules_of_rows t).sets ≤ r.sets = omega arith in
    subst (λ d. IsBehind d h x (rules_of_rows t)) (sym at) (behind-fewer old t h x same le)
