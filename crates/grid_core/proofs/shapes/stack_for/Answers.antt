use Rattle.std.proofs.Common.{◌≡◌, ◌∷◌, [], map, sym, ap, subst, ◌∙◌}
use Rattle.std.specs.List.{All}
use Rattle.std.proofs.lemmas.List.{map-append}
use Rattle.std.proofs.lemmas.List.Elements.{All-push}
use Rattle.cache_core.specs.History.{Rules}
use Rattle.grid_core.specs.Standing.{IsEmptyStack, rules_of_rows}
use Rattle.grid_core.proofs.shapes.stack_for.Goals as goal

pub returns-clause-sizes : goal.returns-clause-sizes
returns-clause-sizes c = λ n same all.
    let old = c.args.stacks.now.items in
    let v = c.in_ok-stack.stack in
    let P : Rules → Type 0 = λ r. r.bsize ≡ n in
    subst (All P) (sym (ap (map rules_of_rows) c.in_ok-push.ensures.items
    ∙ map-append rules_of_rows old (v ∷ [])))
    (All-push P (map rules_of_rows old) (rules_of_rows v) all
    (ap (λ (r : Rules). r.bsize) c.in_ok-stack.ensures.rules
    ∙ c.widest-wide.ensures.wider.same_bsize ∙ same))

pub returns-clause-empty : goal.returns-clause-empty
returns-clause-empty c = λ all.
    subst (All (IsEmptyStack c.args.levels)) (sym c.in_ok-push.ensures.items)
    (All-push (IsEmptyStack c.args.levels) c.args.stacks.now.items c.in_ok-stack.stack all
    (record {
      stands = c.in_ok-stack.ensures.stands;
      counted = c.in_ok-stack.ensures.counted;
      within = c.in_ok-stack.ensures.within;
      told = c.in_ok-stack.ensures.levels;
    }))
