use Rattle.std.proofs.Common.{◌≡◌, ◌++◌, List, length, map, take, drop, sym, ap, subst}
use Rattle.std.proofs.Common.{arith}
use Rattle.std.specs.List.Sorted.{IsStrictlyIncreasing}
use Rattle.std.proofs.lemmas.Grind.{common_steps}
use Rattle.marked_list.specs.Recency.{index_of}
use Rattle.marked_list.specs.Uses.{used_next}
use Rattle.marked_list.specs.declared.marks.Mark.{Mark}
use Rattle.marked_list.specs.Marks.{AreMarks, covers, mark_size}
use Rattle.marked_list.proofs.Living.{once-is}
use Rattle.marked_list.proofs.MarkSteps.{level-found, rest-stays}
use Rattle.marked_list.proofs.marks.move_each.Goals as goal

pub returns-then-first_has-clause-moves : goal.returns-then-first_has-clause-moves
returns-then-first_has-clause-moves c = λ ms b log after rises are i lt.
    let marks = c.args.marks.now.items in
    let has = c.first_has.ensures c.if-first_has.true in
    let level = index_of (λ (k : Mark). covers k.place c.args.last) marks in
    let first : 0 ≡ level = level-found c.args.last marks 0 level has.0 has.1 (omega arith) in
    let same = ap (λ o. index_of (λ (k : Mark). covers k.place o) marks) after.before in
    rest-stays ms b after.low (once-is ms after.once) marks (rises c.if-rising.true) are i
    (omega (arith, first, same)) lt

pub returns-clause-moves : goal.returns-clause-moves
returns-clause-moves c = λ ms b log after rises are.
    let e : take c.args.marks.now.len (c.move_all.new.marks
    ++ drop (length c.move_all.new.marks) c.args.marks.now.items) ≡ c.move_all.new.marks =
    grind (arith, common_steps) in
    subst (AreMarks (used_next b ms)) (sym e)
    (c.move_all.ensures.moves ms b log after
    (λ rising. subst (λ (l : List Mark). IsStrictlyIncreasing (map mark_size l))
    (sym c.deref_mut.ensures.value) (rises rising))
    (subst (AreMarks ms) (sym c.deref_mut.ensures.value) are))
