use Rattle.std.proofs.Common.{◌≡◌, ◌<◌, ◌≤◌, ◌-◌, ℕ, List, length, take, arith, sym, ap, subst, ◌∙◌}
use Rattle.marked_list.specs.Uses.{living, since, used_next}
use Rattle.marked_list.specs.Marks.{covers}
use Rattle.marked_list.proofs.Living.{once-is}
use Rattle.marked_list.proofs.Windows.{moves-on, stays-room}
use Rattle.shared_list.specs.Log.{seen_by}
use Rattle.shared_list.specs.Windows.{mark_of}
use Rattle.shared_list.proofs.Seen.{length-seen-by}
use Rattle.shared_list.proofs.window.place_after.Goals as goal

pub returns-then-window-size : goal.returns-then-window-size
returns-then-window-size c = λ ms b last is after far mark.
    let k = mark_of c.args.size c.args.window in
    let lt : c.args.window.used < k.size = c.if-window-size.true in
    stays-room ms b after.low (once-is ms after.once) k mark
    (sym (ap (covers k.place) after.before) ∙ far) (omega (arith, after.many))

pub returns : goal.returns
returns c = λ ms b last is after far mark.
    let k = mark_of c.args.size c.args.window in
    let log = c.args.log.now in
    let uses = seen_by c.args.user log in
    let p = c.behind_next.result in
    let le : k.size ≤ c.args.window.used = c.if-window-size.false in
    let within : p ≤ length log = c.behind_next.ensures.within in
    let long : length uses ≡ length (used_next b ms) = ap (λ (l : List ℕ). length l) is in
    moves-on ms b after.low (once-is ms after.once) k mark
    (sym (ap (covers k.place) after.before) ∙ far)
    (omega (arith, after.many)) p (omega (arith, within, long, length-seen-by c.args.user log))
    (subst (λ l. living (since p l)
    ≡ take (length (living (since k.place l)) - 1) (living (since k.place l))) is
    c.behind_next.ensures.one_less)
