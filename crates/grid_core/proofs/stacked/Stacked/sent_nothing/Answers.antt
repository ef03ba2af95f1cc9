use Rattle.std.proofs.Common.{◌≡◌, Bool, false, ◌&&◌, ◌||◌, not, map, sym, ap, ◌∙◌}
use Rattle.std.specs.List.{list_all}
use Rattle.cache_core.specs.Parts.{SendsNothing, outcome_of}
use Rattle.grid_core.specs.Cells.{hit_at, shape_rules}
use Rattle.grid_core.specs.StackedCells.{is_silent, stacked_rules}
use Rattle.grid_core.specs.Standing.{found_in}
use Rattle.grid_core.proofs.Silence.{at-rules, hits-send-nothing}
use Rattle.grid_core.proofs.stacked.Stacked.sent_nothing.Goals as goal

-- what is silent, by the parts of what is kept
silent : (w again all : Bool) → w ≡ false → (again || all) ≡ (not w && (again || all))
silent w again all e = ap (λ t. not t && (again || all)) (sym e)

pub returns-then-sends_on-clause-is : goal.returns-then-sends_on-clause-is
unfolding is_silent
returns-then-sends_on-clause-is c =
    let old = c.args.self.now in
    sym (ap (λ t. not t && (old.again || list_all (hit_at (map found_in old.stacks.items))
    old.shapes.items)) (sym c.sends_on.ensures ∙ c.if-sends_on.true))

pub returns-then-self-clause-is : goal.returns-then-self-clause-is
unfolding is_silent
returns-then-self-clause-is c =
    let old = c.args.self.now in
    let all = list_all (hit_at (map found_in old.stacks.items)) old.shapes.items in
    c.if-self.true ∙ ap (λ t. t || all) (sym c.if-self.true)
    ∙ silent (old.write && not old.wback) old.again all (sym c.sends_on.ensures
    ∙ c.if-sends_on.false)

pub returns-else-self-clause-is : goal.returns-else-self-clause-is
unfolding is_silent
returns-else-self-clause-is c =
    let old = c.args.self.now in
    let all = list_all (hit_at (map found_in old.stacks.items)) old.shapes.items in
    c.all_have_hit.ensures.is ∙ ap (λ t. t || all) (sym c.if-self.false)
    ∙ silent (old.write && not old.wback) old.again all (sym c.sends_on.ensures
    ∙ c.if-sends_on.false)

pub returns-then-self-clause-told : goal.returns-then-self-clause-told
unfolding stacked_rules
returns-then-self-clause-told c = λ again h x answered.
    let old = c.args.self.now in
    at-rules shape_rules (λ r. SendsNothing (outcome_of r h x)) old.shapes.items
    (hits-send-nothing h x old.wback c.sends_on.result old.shapes.items (answered.again again)
    old.one_policy (c.sends_on.ensures ∙ ap (λ w. w && not old.wback) answered.write)
    c.if-sends_on.false)

pub returns-else-self-clause-told : goal.returns-else-self-clause-told
unfolding stacked_rules
returns-else-self-clause-told c = λ all h x answered.
    let old = c.args.self.now in
    at-rules shape_rules (λ r. SendsNothing (outcome_of r h x)) old.shapes.items
    (hits-send-nothing h x old.wback c.sends_on.result old.shapes.items
    (c.all_have_hit.ensures.hits all h x (answered.moved c.if-self.false))
    old.one_policy (c.sends_on.ensures ∙ ap (λ w. w && not old.wback) answered.write)
    c.if-sends_on.false)
