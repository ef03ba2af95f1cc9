use Rattle.std.proofs.Common.{◌≡◌, ◌<◌, ◌≤◌, ◌-◌, ℕ, List, length, take, arith, sym, ap, subst, ◌∙◌}
use Rattle.marked_list.specs.Uses.{living, since, used_next}
use Rattle.marked_list.specs.Marks.{covers}
use Rattle.marked_list.specs.Log.{uses_of}
use Rattle.marked_list.proofs.Living.{once-is}
use Rattle.marked_list.proofs.Windows.{stays-inside, stays-room, moves-on}
use Rattle.marked_list.proofs.marks.move_mark.Goals as goal

pub returns-then-is_since-clause-moves : goal.returns-then-is_since-clause-moves
returns-then-is_since-clause-moves c = λ ms b log after mark.
    let k = c.args.mark.now in
    stays-inside ms b after.low (once-is ms after.once) k mark
    (sym (ap (covers k.place) after.before) ∙ sym c.is_since.ensures ∙ c.if-is_since.true)

pub returns-then-used-mark-clause-moves : goal.returns-then-used-mark-clause-moves
returns-then-used-mark-clause-moves c = λ ms b log after mark.
    let k = c.args.mark.now in
    let lt : c.args.used < k.size = c.if-used-mark.true in
    stays-room ms b after.low (once-is ms after.once) k mark
    (sym (ap (covers k.place) after.before) ∙ sym c.is_since.ensures ∙ c.if-is_since.false)
    (omega (arith, after.many))

pub returns-clause-moves : goal.returns-clause-moves
returns-clause-moves c = λ ms b log after mark.
    let k = c.args.mark.now in
    let uses = uses_of c.args.uses.now in
    let p = c.behind_next-mark.result in
    let le : k.size ≤ c.args.used = c.if-used-mark.false in
    let within : p ≤ length uses = c.behind_next-mark.ensures.within in
    let long : length uses ≡ length (used_next b ms) = ap (λ (l : List ℕ). length l) log in
    moves-on ms b after.low (once-is ms after.once) k mark
    (sym (ap (covers k.place) after.before) ∙ sym c.is_since.ensures ∙ c.if-is_since.false)
    (omega (arith, after.many)) p (omega arith)
    (subst (λ l. living (since p l)
    ≡ take (length (living (since k.place l)) - 1) (living (since k.place l))) log
    c.behind_next-mark.ensures.one_less)
