use Rattle.std.proofs.Common.{sym, subst}
use Rattle.grid_core.specs.Standing.{HasMoved}
use Rattle.grid_core.proofs.Placed.{names-rows, rules-at}
use Rattle.grid_core.proofs.outcome.answer_in.Goals as goal

pub outcome_in-requires : goal.outcome_in-requires
outcome_in-requires c =
    let xs = c.args.stacks.now.items in
    let s = c.args.shape in
    rules-at xs s.stack c.index.result.now s c.index.ensures (names-rows xs s c.requires)
    c.requires.placed

pub returns : goal.returns
returns c = λ h x moved prior write.
    let xs = c.args.stacks.now.items in
    let s = c.args.shape in
    let v = c.index.result.now in
    let here : HasMoved h x v = subst (HasMoved h x) (sym c.index.ensures)
    (moved s.stack v (names-rows xs s c.requires)) in
    c.outcome_in.ensures.is h x here write prior
