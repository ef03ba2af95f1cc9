use Rattle.std.proofs.Common.{◌≡◌, ltb, sym, ap, subst, ◌∙◌, arith}
use Rattle.std.proofs.lemmas.Bool.{ltb-true, ltb-false}
use Rattle.cache_core.proofs.Cases.{by_cases}
use Rattle.marked_list.specs.declared.marks.Mark.{Mark}
use Rattle.marked_list.specs.Recency.{index_of}
use Rattle.marked_list.specs.Uses.{last_in, used_next}
use Rattle.marked_list.specs.Marks.{covers, IsMark}
use Rattle.marked_list.proofs.Living.{once-is}
use Rattle.marked_list.proofs.MarkSteps.{rest-stays}
use Rattle.marked_list.proofs.marks.move_all.Goals as goal

pub returns-then-rising-clause-moves : goal.returns-then-rising-clause-moves
returns-then-rising-clause-moves c = λ ms b log after rises are i lt.
    let first = c.args.marks.now in
    let level = c.move_first-level.result in
    let at : level ≡ index_of (λ (k : Mark). covers k.place (last_in ms b)) first =
    c.move_first-level.ensures.level
    ∙ ap (λ o. index_of (λ (k : Mark). covers k.place o) first) after.before in
    let long = c.move_first-level.auto.marks in
    by_cases (ltb i level)
    (λ e. c.move_first-level.ensures.moves ms b log after are i (ltb-true i level e))
    (λ e. let ge = ltb-false i level e in
    subst (IsMark (used_next b ms)) (sym (c.move_first-level.ensures.left i ge))
    (rest-stays ms b after.low (once-is ms after.once) first (rises c.if-rising.true) are i
    (omega (arith, at, ge)) (omega (arith, long, lt))))

pub returns-clause-moves : goal.returns-clause-moves
returns-clause-moves c = λ ms b log after rises are i lt.
    let first = c.args.marks.now in
    let level = c.move_first-level.result in
    let long = c.move_first-level.auto.marks in
    let longer = c.move_rest.auto.marks in
    by_cases (ltb i level)
    (λ e. let below = ltb-true i level e in
    subst (IsMark (used_next b ms)) (sym (c.move_rest.ensures.left i below))
    (c.move_first-level.ensures.moves ms b log after are i below))
    (λ e. let ge = ltb-false i level e in
    c.move_rest.ensures.moves ms b log after i ge (omega (arith, longer, lt))
    (subst (IsMark ms) (sym (c.move_first-level.ensures.left i ge))
    (are i (omega (arith, long, longer, lt)))))
