use Rattle.std.proofs.Common.{◌<◌, ap, ◌∙◌, arith, sym, subst, length}
use Rattle.std.proofs.lemmas.List.{length-map}
use Rattle.grid_core.specs.Standing.{StackStandsFor, rules_of_rows}
use Rattle.grid_core.specs.Written.{written_by}
use Rattle.grid_core.proofs.Placed.{rules-at}
use Rattle.grid_core.proofs.cells.dirty_list.Goals as goal

pub dirty-requires-clause-some : goal.dirty-requires-clause-some
dirty-requires-clause-some c = (c.requires.placed (rules_of_rows c.index.result.now)).some

pub dirty-requires-clause-fits : goal.dirty-requires-clause-fits
dirty-requires-clause-fits c =
    let xs = c.args.stacks.now.items in
    let lt : c.args.shape.stack < length xs =
    let in_all = c.requires.inside in omega (arith, length-map xs rules_of_rows) in
    (rules-at xs c.args.shape.stack c.index.result.now c.args.shape c.index.ensures lt
    c.requires.placed).fits

pub returns : goal.returns
returns c = λ h all.
    let xs = c.args.stacks.now.items in
    let s = c.args.shape in
    let v = c.index.result.now in
    let lt : s.stack < length xs =
    let in_all = c.requires.inside in omega (arith, length-map xs rules_of_rows) in
    let on = rules-at xs s.stack v s c.index.ensures lt c.requires.placed in
    c.in_ok-bytes.ensures h
    (subst (λ w. StackStandsFor w h) (sym c.index.ensures) (all s.stack v lt))
    ∙ ap (written_by h) on.same
